mod Chains
mod Signs
mod Mending
mod Turning
mod Improving
mod Loops
mod Counts
pub mod Laws
