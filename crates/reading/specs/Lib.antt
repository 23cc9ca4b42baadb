pub mod Verdict
pub mod Opening
pub mod Claims
pub mod Listing
pub mod Reading
pub mod Near
