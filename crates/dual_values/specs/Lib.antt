pub mod Duals
pub mod Places
