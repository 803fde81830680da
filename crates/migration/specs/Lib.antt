pub mod Sources
pub mod Nodes
