pub mod Solution
