pub mod Payload
pub mod Seal
pub mod Steps
