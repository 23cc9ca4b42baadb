pub mod Matching
pub mod Comparing
pub mod Before
pub mod Entries
