pub mod Text
pub mod Duties
pub mod Entries
