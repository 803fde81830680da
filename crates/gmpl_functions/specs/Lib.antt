pub mod Numbers
pub mod Powers
pub mod Strings
pub mod Amounts
pub mod Linear
pub mod Scalings
pub mod Sums
