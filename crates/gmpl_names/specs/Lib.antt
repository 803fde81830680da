pub mod Names
pub mod Supported
pub mod Meanings
pub mod Expressions
pub mod Statements
