pub mod Follow
pub mod Writing
pub mod Leaving
pub mod Parts
pub mod RangedEnds
pub mod Left
pub mod Runs
pub mod Answers
pub mod Reports
pub mod Works
pub mod FilesRead
pub mod Carried
pub mod Ended
pub mod Verdicts
pub mod Limits
pub mod Stories
pub mod Completes
mod Completed
mod WorkedExample
pub mod Wanted
