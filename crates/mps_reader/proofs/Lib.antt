pub mod FreeMpsExamples
pub mod Pairs
pub mod WholePieces
