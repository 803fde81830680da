pub mod Reading
pub mod Formulas
