pub mod Payloads
pub mod Blocks
pub mod KeyExchange
pub mod Stored
pub mod Exercises
pub mod Class
