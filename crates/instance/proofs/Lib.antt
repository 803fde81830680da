mod Longer
mod Sums
mod Meeting
mod ByColumn
mod Directions
mod Continuous
pub mod Laws
