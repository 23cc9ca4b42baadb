pub mod Places
pub mod Planes
pub mod Moves
pub mod Calls
