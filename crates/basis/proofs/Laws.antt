-- The laws of bases, of runs of Bland's rule and of what their ends show that other crates cite.

-- places in a basis, and how an exchange changes them
pub use Rattle.basis.proofs.Places.{basic_after, basic_known, below, enters_basic, is_basic_or, leaves_rests, length-exchanged, other_place, rests_or, stays_basic}
pub use Rattle.basis.proofs.Coefs.{not_resting}
-- the start, a pivot, and the points that they lead to
pub use Rattle.basis.proofs.Rays.{arrives, direction_solves, direction_value}
pub use Rattle.basis.proofs.Start.{extended_satisfies, same_below, start_is_dictionary, start_is_point}
pub use Rattle.basis.proofs.Unique.{same_gains, same_place, same_point, value_same-resting}
pub use Rattle.basis.proofs.Pivot.{pivot_keeps}
pub use Rattle.basis.proofs.Points.{after, point_after, value-after}
pub use Rattle.basis.proofs.StepLemmas.{HasAll, improve_exchanges, mend_exchanges, step_has}
-- lists of numbers, and two lists one after the other
pub use Rattle.basis.proofs.Lists.{length-numbers, numbers-below, slice_get_left, slice_get_right}
-- the system of a node: its forms and bounds
pub use Rattle.basis.proofs.NodeSystems.{derived_form, length-columns, node_size, row_form}
pub use Rattle.basis.proofs.NodeTerms.{derived-lower, row-lower, row-upper}
-- tests of numbers against bounds
pub use Rattle.basis.proofs.Order.{above_some, below_some, le_or_less, neg_above, neg_below, nonzero_cases, not_le, not_less, signs_of, zero_numerator}
pub use Rattle.basis.proofs.Bounds.{none_outside_inside, resting_inside}
-- what the end of a run shows of its node
pub use Rattle.basis.proofs.Blocked.{infeasible_shows, refutes_leaf}
pub use Rattle.basis.proofs.Leaves.{infeasible_proves, optimal_is_best, optimal_passes, optimal_proves, unbounded_proves}
pub use Rattle.basis.proofs.Ends.{optimal_point, optimal_weights_show, unbounded_point, unbounded_ray}
-- base numbers, and operations on site numbers
pub use Rattle.basis.proofs.NumberFacts.{infeasible_weights_base, optimal_point_base, optimal_weights_base, pair_within, run_within_node, unbounded_point_base, unbounded_ray_base}
pub use Rattle.basis.proofs.Operations.{node_operation}
-- weights on variables: their terms, with their form and their bound
pub use Rattle.basis.proofs.NodeTerms.{all_terms, terms_are, terms_value, terms_bound, terms_below}
pub use Rattle.basis.proofs.FormWeights.{UsesBound, sum_alike, weights_there_at, weights_sum_at, bounds_sum_at}
pub use Rattle.basis.proofs.Forms.{same_forms}
pub use Rattle.basis.proofs.NodeSystems.{is_system}
pub use Rattle.basis.proofs.Coefs.{unit_self, unit_other}
pub use Rattle.basis.proofs.Values.{value-unit, below-append, below-scaled}
