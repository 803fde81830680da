-- FreeMps first: the texts and their lines.
pub mod FreeMps
pub mod Sense
pub mod RowsAndColumns
pub mod RhsRangesBounds
pub mod Lines
pub mod Steps
pub mod Follows
