pub mod Lookup
pub mod Verdicts
pub mod Advancing
