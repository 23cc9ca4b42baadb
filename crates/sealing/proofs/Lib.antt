pub mod Counts
pub mod DataOctets
pub mod Payload
pub mod Runs
pub mod Seal
