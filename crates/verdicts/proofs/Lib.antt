mod Coefficients
mod Duality
mod Numbers
mod Forms
mod Sums
mod Points
mod DerivedRows
mod Nodes
mod Bounded
mod Law
mod Steps
mod Converse
mod Trees
mod Migration
mod Named
mod SplitRows
mod Examples
pub mod Laws
