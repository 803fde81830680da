pub mod Rounding
pub mod Fits
pub mod Digits
pub mod Significand
pub mod Decimals
