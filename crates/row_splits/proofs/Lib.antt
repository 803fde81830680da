mod ByRows
mod Left
pub mod Laws
