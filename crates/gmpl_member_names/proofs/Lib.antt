mod Doubled
pub mod NamesDiffer
mod NumberTexts
mod Split
