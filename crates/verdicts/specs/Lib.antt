pub mod WeightedSums
pub mod Rays
pub mod Certificate
pub mod Proves
pub mod Preorder
pub mod Migrated
pub mod SplitRows
