pub mod AllHold
pub mod At
pub mod Membership
pub mod OneByOne
pub mod Shared
pub mod Stops
