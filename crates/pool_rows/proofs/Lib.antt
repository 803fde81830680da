pub mod Crews
pub mod Leases
pub mod OneMore
