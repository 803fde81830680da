mod Choices
mod NodeParts
mod RatioLemmas
mod DecisionLemmas
mod StateLemmas
mod Crossing
mod WeightItems
mod PointNumbers
mod RunLengths
mod RayNumbers
mod Narrowing
mod NodeEnds
mod OverColumns
pub mod Laws
