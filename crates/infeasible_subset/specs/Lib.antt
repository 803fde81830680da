pub mod Members
pub mod Subsets
pub mod Listed
pub mod Building
pub mod Underway
pub mod Faults
pub mod Trials
pub mod Meeting
