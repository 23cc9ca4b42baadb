pub mod Passages
pub mod Sends
pub mod Receipts
