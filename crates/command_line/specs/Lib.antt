pub mod Meaning
pub mod Options
