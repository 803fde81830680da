pub mod Demands
pub mod Objects
pub mod Kinds
