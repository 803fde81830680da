pub mod Lexemes
pub mod Tokens
pub mod Left
