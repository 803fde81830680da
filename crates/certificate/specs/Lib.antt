pub mod Written
pub mod Values
pub mod Ways
pub mod Parents
pub mod Text
