pub mod Demands
pub mod InModels
pub mod Membership
pub mod OneByOne
pub mod Ranges
pub mod Rolled
pub mod Steps
