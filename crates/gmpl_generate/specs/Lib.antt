-- Read Running for what is made on the way, Scopes for the elements of domains, Checks, Printing, Display, OutputTables and Actions
-- for what statements do that declare nothing; then Rows for what a constraint or an objective makes at an element of its domain,
-- Steps and Execution for their order, InputTables and Problem for what it comes to, and Solved for the statements behind `solve`.
pub mod Running
pub mod Scopes
pub mod Checks
pub mod Printing
pub mod Shown
pub mod Display
pub mod OutputTables
pub mod Actions
pub mod Steps
pub mod Faults
pub mod Rows
pub mod Execution
pub mod InputTables
pub mod Problem
pub mod Solved
