-- What other crates may cite of tables, rows and moves.
pub use Rattle.dictionary.proofs.RowNumbers.{err_from, handed_on, read_number}
pub use Rattle.dictionary.proofs.SumLemmas.{entry_below}
pub use Rattle.dictionary.proofs.TableForms.{basic_test, is_over_resting}
pub use Rattle.dictionary.proofs.MoveLemmas.{direction-self, direction-basic, is_direction}
