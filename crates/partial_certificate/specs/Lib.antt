pub mod Partial
pub mod Written
pub mod Marks
pub mod Values
pub mod Text
pub mod Outcome
pub mod Shown
pub mod Columns
