-- The laws of trees and boards that other crates cite.

-- a tree's preorder
pub use Rattle.search_tree.proofs.Slots.{nodes_count}
-- trees with another one in a place
pub use Rattle.search_tree.proofs.Trees.{made_reclaimed, made_replaced, none_leased, reclaimed_none_leased, sum_replaced, todo_not_leased}
-- histories, and the boards that are kept
pub use Rattle.search_tree.proofs.Histories.{one_more, replay_kept}
pub use Rattle.search_tree.proofs.Covered.{covered}
-- splits on an honest way
pub use Rattle.search_tree.proofs.Honest.{honest_columns}
-- operations that do not fit
pub use Rattle.search_tree.proofs.WorkFaults.{forms_ascend, forms_ascend_below, on_site_numbers}
-- the certificate of a finished board, and what the tests of a kept board's parts answer
pub use Rattle.search_tree.proofs.Finished.{both_accepted, cuts_accepted, finished_accepted, finished_tree, size_passes, then_accepted, value_claimed}
-- honest splits pass the test of a branch
pub use Rattle.search_tree.proofs.HonestSplits.{whole_form}
-- weights that name the splits on the way
pub use Rattle.search_tree.proofs.NamedLeaves.{bound_named, empty_named, named_at_root}
