pub mod Pairs
pub mod Sound
pub mod Laws
