pub mod WellFormed
pub mod Sums
pub mod ByColumn
pub mod Continuous
