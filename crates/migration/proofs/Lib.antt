pub mod Walk
pub mod Tests
pub mod Order
pub mod NamedItems
pub mod Behind
