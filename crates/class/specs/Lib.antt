pub mod Reading
pub mod Opening
pub mod Listing
pub mod Input
pub mod Secrecy
pub mod Claims
pub mod Duties
