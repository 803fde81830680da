-- The laws that other crates cite.
pub use Rattle.bland_ends.proofs.Loops.{never_twice}
pub use Rattle.bland_ends.proofs.Counts.{runs_are_few, steps_are_few}
