mod FormValues
pub mod SameForms
pub mod ExtendedParts
pub mod RestoredSums
mod RestoredTerms
pub mod Parts
mod RestoredNodes
mod RestoredPoints
mod RestoredCertificates
mod ExtendedPoints
pub mod KeptItems
pub mod RemadeTrees
mod RestoredPartials
pub mod RemadePartials
pub mod RestoredTree
mod ScalingLemmas
mod RowLemmas
pub mod Adding
pub mod NewNames
mod MovedEntries
mod Extensions
