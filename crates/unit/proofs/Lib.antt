pub mod Elapsed
pub mod Reached
pub mod Timed
