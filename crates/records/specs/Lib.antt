pub mod Settings
pub mod Record
pub mod Place
pub mod Verdict
pub mod Block
pub mod Near
pub mod Following
