pub mod Literals
pub mod Trees
pub mod Grammar
