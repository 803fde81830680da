mod Walk
mod Products
mod ItemOrder
mod Merge
mod Signs
mod Ascending
mod Negatives
mod ColumnTotals
mod Turning
mod Meeting
mod Places
mod Trials
mod Exact
mod Making
mod PartLaws
mod OutcomeLaws
mod FaultLaws
pub mod Laws
