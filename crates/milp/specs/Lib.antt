pub mod Form
pub mod Problem
pub mod Points
