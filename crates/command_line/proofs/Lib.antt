pub mod Taken
pub mod Limits
pub mod Examples
pub mod Laws
