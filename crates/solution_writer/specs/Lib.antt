pub mod Report
pub mod Subset
pub mod Solution
pub mod KindTexts
pub mod FaultLine
