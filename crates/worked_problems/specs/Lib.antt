pub mod Problems
pub mod Unhindered
