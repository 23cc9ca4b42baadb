pub mod Sets
pub mod Loads
pub mod Accepting
