pub mod Places
pub mod Verdicts
pub mod Headers
pub mod Steps
pub mod Following
