pub mod RowForms
pub mod Scaling
pub mod Extended
pub mod Extending
pub mod Restored
pub mod Partials
