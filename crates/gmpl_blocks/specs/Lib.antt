pub mod Input
pub mod Rules
pub mod Strings
pub mod Symbols
pub mod Slots
pub mod Parameters
pub mod Sets
