pub mod TermSteps
pub mod SolvedRows
pub mod Looped
pub mod Behind
pub mod TablesLeft
pub mod OnlyMemory
pub mod Executions
