mod EntryLists
mod EntrySums
mod RowNumbers
mod SparseRows
mod StartPoint
mod StartTable
mod SumLemmas
mod MoveLemmas
mod TableFaults
mod TableFlip
mod TableForms
mod TableMade
mod TablePivot
mod TableRows
pub mod Laws
