pub mod Walks
pub mod Texts
pub mod Scanned
pub mod TokenExamples
pub mod TokenKinds
pub mod DataScanned
pub mod DataTokenExamples
