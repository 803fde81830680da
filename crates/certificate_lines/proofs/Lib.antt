pub mod Digits
pub mod Fronts
pub mod Loops
pub mod Taken
pub mod Pieces
