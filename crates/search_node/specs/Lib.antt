pub mod Bases
pub mod Faults
pub mod Sides
