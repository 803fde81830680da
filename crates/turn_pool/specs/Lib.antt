pub mod Calls
pub mod Events
pub mod Logs
pub mod Passes
pub mod Turns
