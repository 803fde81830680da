-- The laws of instances that other crates cite.

-- forms whose places are in range and in order
pub use Rattle.instance.proofs.Longer.{entries_within, entry_count-snoc}
-- where all operations fit, a sum is the sum, and the tests of rows are the rows' tests
pub use Rattle.instance.proofs.Sums.{sum_fits_ok}
pub use Rattle.instance.proofs.Meeting.{and_rest, rows_ok}
