pub mod Elements
pub mod ItemOrder
pub mod Laws
pub mod Splits
pub mod Turns
