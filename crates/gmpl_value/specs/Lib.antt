pub mod Follows
pub mod Range
pub mod Sets
pub mod SymbolEquality
pub mod SymbolFed
pub mod SymbolOrder
pub mod Outcome
