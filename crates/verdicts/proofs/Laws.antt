-- The laws of certificates and of the tests on points and rays that other crates cite.

-- order and signs of numbers
pub use Rattle.verdicts.proofs.Numbers.{le_by, minus_one-mul, mul-le-mul_neg, neg-zero, neg_le}
-- values of forms, and their coefficients by column
pub use Rattle.verdicts.proofs.Coefficients.{same_value, sum_zero, value_by_column}
pub use Rattle.verdicts.proofs.Duality.{value-append, value-scaled}
pub use Rattle.verdicts.proofs.Forms.{coefficient-append, coefficient-combined, coefficient-scaled}
-- the tests of a point and of a ray hold exactly of feasible points and improving rays
pub use Rattle.verdicts.proofs.Points.{meets_true}
pub use Rattle.verdicts.proofs.Converse.{true_meets, true_ray}
-- a certificate that proves its verdict makes it true
pub use Rattle.verdicts.proofs.Law.{certificate_right}
-- points on the way to a leaf, and what the tests of a derived row and of a leaf show
pub use Rattle.verdicts.proofs.DerivedRows.{derived_sound, derived_more, inside_own, takes_low, whole_value}
pub use Rattle.verdicts.proofs.Nodes.{empty_under, bound_under, inside_low, inside_high, inside_taken, leaf_bound, leaf_empty, on_a_side}
pub use Rattle.verdicts.proofs.Bounded.{leaf_no_ray}
-- ways in a tree
pub use Rattle.verdicts.proofs.Trees.{ways_step}
