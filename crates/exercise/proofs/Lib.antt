pub mod Lanes
pub mod Goes
pub mod Scripts
pub mod Listed
pub mod Losses
