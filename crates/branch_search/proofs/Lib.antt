mod Floors
mod Treating
mod Leased
pub mod Growth
mod Standing
mod Further
mod SameSearch
mod Ends
mod Sites
pub mod Without
pub mod Causes
pub mod WholeEnds
mod PlainEnds
mod ColumnSplits
