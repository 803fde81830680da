pub mod Reading
pub mod NodeLines
pub mod Kinds
