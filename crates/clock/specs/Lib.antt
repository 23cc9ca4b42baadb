pub mod Ticks
pub mod Stamping
pub mod Loop
pub mod Aligned
