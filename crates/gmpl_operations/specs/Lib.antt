pub mod Values
pub mod Operators
pub mod Relations
pub mod Functions
pub mod Iterations
pub mod Patterns
