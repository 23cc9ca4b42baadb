pub mod Comparing
pub mod Before
pub mod Laws
pub mod Listing
pub mod Duties
