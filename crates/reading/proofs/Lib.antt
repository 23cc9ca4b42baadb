pub mod Opening
pub mod Reopening
pub mod Lines
pub mod Readings
pub mod Exact
pub mod Loops
