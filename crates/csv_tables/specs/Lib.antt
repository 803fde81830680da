pub mod Outcome
pub mod Reading
pub mod Records
pub mod Writing
