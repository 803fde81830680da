pub mod Powers
pub mod DigitLemmas
pub mod ExponentLemmas
pub mod Sizes
pub mod NearestLaw
pub mod ExponentLaw
