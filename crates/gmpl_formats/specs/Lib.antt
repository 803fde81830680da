pub mod Conversions
pub mod Pieces
pub mod Texts
pub mod Printing
