pub mod Objects
pub mod Tables
pub mod Statements
pub mod Tabbing
pub mod Texts
