-- Declaration first: what a text has declared so far.
pub mod Declaration
pub mod Rows
pub mod Changes
pub mod Signs
pub mod Expecting
pub mod Steps
pub mod Consistent
