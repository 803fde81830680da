pub mod Keeping
pub mod OneTerm
