pub mod Script
pub mod Play
pub mod Losses
pub mod Listed
