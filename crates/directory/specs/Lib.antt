pub mod Directory
pub mod Broken
pub mod Payload
pub mod Rebuilt
pub mod Duties
