pub mod Parts
pub mod Walks
pub mod Expressions
pub mod Domains
pub mod Restrictions
pub mod Members
pub mod Written
pub mod Right
