mod ColumnSums
mod CutFaults
mod CutsPass
mod FractionalParts
pub mod CutLaws
mod ListEnds
mod MadeCuts
mod NumberAnswers
mod VariableSums
mod WeightSigns
