pub mod Boards
pub mod Crews
pub mod Faults
pub mod Views
pub mod LeavesPut
pub mod Offers
