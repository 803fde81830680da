-- CplexLp first: the texts, their sections and tokens.
pub mod CplexLp
pub mod Objective
pub mod Constraints
pub mod Bounds
pub mod Ahead
