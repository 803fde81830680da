pub mod CutProblem
pub mod Cutting
pub mod Restored
pub mod Partials
