pub mod Laws
pub mod Terms
pub mod Sums
pub mod Changed
pub mod Kept
pub mod Building
