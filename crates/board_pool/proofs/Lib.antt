pub mod AskedLeaves
pub mod EventsOnce
pub mod Grafts
pub mod LeafStays
pub mod LeaseLaws
pub mod OneHistory
pub mod TreeLaws
