mod Heads
mod NamedTokens
mod LexedNames
mod KeptTokens
mod ExpressionTokens
mod TableTokens
mod ActionTokens
mod HeadNames
mod ResolvedNames
mod ObjectNames
pub mod Names
pub mod Given
pub mod Readings
