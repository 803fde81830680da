pub mod Cuts
pub mod Faults
pub mod HasCut
pub mod Numbers
