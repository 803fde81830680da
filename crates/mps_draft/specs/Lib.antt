-- Declaration first: what a text has declared so far.
pub mod Declaration
pub mod Sections
pub mod Sets
pub mod Rows
pub mod RowNumbers
pub mod Bounds
pub mod Finished
pub mod Consistent
