mod Slots
mod Trees
mod NamedLeaves
mod Passing
mod HonestSplits
mod Covered
mod Steps
mod Histories
mod Finished
mod Honest
mod Pinned
mod AnyWhole
mod Treated
mod FaultsTold
mod NodeNumbers
mod NodeForms
mod LeafWeights
mod NodeTests
mod WorkFaults
pub mod Laws
mod Combined
mod NodePoints
mod SplitBounds
mod Paths
mod OwnValues
pub mod CheckLaws
