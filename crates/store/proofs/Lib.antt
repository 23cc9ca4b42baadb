pub mod Payloads
pub mod Blocks
pub mod Moves
pub mod Directories
