-- What other crates cite of certificates that are found.
pub use Rattle.row_splits.proofs.ByRows.{own_size}
