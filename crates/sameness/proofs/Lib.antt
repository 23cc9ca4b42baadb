pub mod Chains
pub mod Pairing
pub mod Sameness
