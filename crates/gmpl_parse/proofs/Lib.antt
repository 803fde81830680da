pub mod FirstFaults
pub mod Judged
pub mod OneByOne
