pub mod Pairs
pub mod Trimming
pub mod Broken
pub mod Records
pub mod Filling
pub mod Rebuilding
