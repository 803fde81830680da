mod Value
mod Field
mod OrderLaws
mod Floors
mod Tests
mod Wholes
pub mod Laws
