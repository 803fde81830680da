pub mod Rational
pub mod Compare
pub mod Denominators
