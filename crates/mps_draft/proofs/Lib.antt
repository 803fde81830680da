pub mod Keyed
pub mod Entries
pub mod Kept
pub mod Taking
pub mod Current
pub mod Bounded
pub mod Bounding
pub mod Building
