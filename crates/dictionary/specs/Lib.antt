pub mod Ascending
pub mod Faults
pub mod Rows
pub mod Sparse
pub mod Start
pub mod Sums
pub mod Table
pub mod Values
