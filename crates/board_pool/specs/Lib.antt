pub mod Asks
pub mod Grafts
pub mod GraftsStay
pub mod LeasesStay
pub mod OpenLeases
pub mod Searches
pub mod Stuck
pub mod Touched
