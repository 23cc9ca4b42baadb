pub mod InPlace
pub mod Spans
pub mod Turns
pub mod Walks
