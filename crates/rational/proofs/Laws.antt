-- The laws of rational numbers that other crates cite.

-- a number's value as a fraction in any terms
pub use Rattle.rational.proofs.Value.{cross_scaled, over-self, over_lowest, same_parts, value_add, value_mul, value_neg, value_over, value_same, value_self}
-- an ordered field
pub use Rattle.rational.proofs.Field.{add-le-add, add-neg, add-zero, add_assoc, add_comm, add_left_cancel, add_left_comm, add_mul, cancel_left, cancel_right, field, field_units, inv_left, inverses, le_antisymm, le_of_lt, le_refl, le_trans, lt-not-le, lt_trans, mul-inv, mul-le-mul, mul-one, mul-zero, mul_add, mul_assoc, mul_comm, mul_neg, neg_mul, neg_neg, one-mul, signs, zero-add, zero-mul}
-- the order as a comparison
pub use Rattle.rational.proofs.OrderLaws.{compare_ties, compare_total}
-- what tests on numbers tell
pub use Rattle.rational.proofs.Tests.{at_most_false, at_most_true, less_false, less_true, negative_numerator, positive_numerator, same_true, true_at_most, true_less, true_same, false_less, whole_true, zero_true}
-- whole numbers, and the two sides of a split
pub use Rattle.rational.proofs.Wholes.{neg_whole, whole-add, whole-mul, zero-le_whole}
pub use Rattle.rational.proofs.Floors.{whole_sides}
