pub mod Crews
pub mod Holders
pub mod Leaves
pub mod Left
