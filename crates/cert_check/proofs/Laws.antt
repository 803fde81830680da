-- The laws of the check that other crates cite.

-- an answer, and then another, where the operations fit
pub use Rattle.cert_check.proofs.Exact.{if_ok, next_ok, ok_then, product_ok}
-- the bounds and terms that are found are the definitions'
pub use Rattle.cert_check.proofs.Exact.{all_there_ok, lower_ok}
-- forms in order of column, and the products of a weight with one
pub use Rattle.cert_check.proofs.Ascending.{coefficient_found, coefficient_none, entries_ascend, products_found, products_none}
-- where all operations fit, the answers for a derived row and for a node are the definition's tests
pub use Rattle.cert_check.proofs.PartLaws.{derived_ok, node_ok}
-- lists of trials, and what acceptance proves
pub use Rattle.cert_check.proofs.OutcomeLaws.{check_accepted}
pub use Rattle.cert_check.proofs.Trials.{after, trials_then}
-- each fault names an operation that does not fit
pub use Rattle.cert_check.proofs.FaultLaws.{AreHonest, both_honest, derived_all_honest, fault_operation, node_honest, point_honest, value_honest}
