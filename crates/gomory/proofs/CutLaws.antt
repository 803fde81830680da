-- What other crates cite of cuts, and of lists of numbers, variable by variable.
pub use Rattle.gomory.proofs.CutsPass.{root_passes}
pub use Rattle.gomory.proofs.ListEnds.{one_more_number, one_longer}
