pub mod Field
pub mod Lanes
pub mod Substitution
pub mod Table
