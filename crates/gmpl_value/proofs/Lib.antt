pub mod Distinct
pub mod RangeSteps
pub mod SetLemmas
