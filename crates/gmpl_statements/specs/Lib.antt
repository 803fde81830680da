pub mod Parts
pub mod Attributes
pub mod Declarations
pub mod Tables
pub mod Simple
pub mod Actions
pub mod Statement
pub mod Statements
