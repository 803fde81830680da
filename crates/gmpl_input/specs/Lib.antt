pub mod Input
pub mod Rules
