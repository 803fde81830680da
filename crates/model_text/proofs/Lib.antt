pub mod Laws
pub mod Adding
mod FirstLine
