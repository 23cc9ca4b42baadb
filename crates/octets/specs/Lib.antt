pub mod BigEndian
pub mod Bits
pub mod Choice
pub mod Eqs
pub mod Lists
pub mod Output
pub mod Each
