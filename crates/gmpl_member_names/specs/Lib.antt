pub mod Names
pub mod Narrow
