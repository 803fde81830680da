pub mod Factors
pub mod Halves
pub mod PutSteps
pub mod Remainders
pub mod ScalingSteps
pub mod SumSteps
pub mod WholeAnswers
