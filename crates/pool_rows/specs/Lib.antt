pub mod OpenLeases
pub mod Ready
pub mod Tasks
