pub mod Span
pub mod Duties
pub mod Walk
