-- Read Draft and Demanded for what statements make, then Problem and Premises; Laying and Named are for proofs.
pub mod Follows
pub mod MemberColumn
pub mod Demanded
pub mod Draft
pub mod Problem
pub mod Premises
pub mod Terms
pub mod Laying
pub mod Named
