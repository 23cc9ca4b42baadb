pub mod Flags
pub mod Rest
