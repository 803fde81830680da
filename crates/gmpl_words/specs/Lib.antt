pub mod Operators
pub mod Functions
pub mod Attributes
pub mod Statements
pub mod Braces
