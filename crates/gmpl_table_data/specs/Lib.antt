pub mod TableData
pub mod Places
