pub mod Setting
pub mod Walk
pub mod Sums
pub mod Lookup
pub mod Parts
pub mod Outcome
pub mod Made
pub mod Totals
