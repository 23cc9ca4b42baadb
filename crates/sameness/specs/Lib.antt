pub mod Pairing
pub mod Sameness
