pub mod Lookup
pub mod Moves
