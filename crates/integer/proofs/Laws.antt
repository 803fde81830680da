-- The laws of whole numbers that other crates cite.

-- whole numbers as an ordered ring
pub use Rattle.integer.proofs.IntRing.{IsPositive-mul, IsPositive-pos, add-le-add, add_neg, le_antisymm, le_by, le_total, le_trans, lt_by, lt_trans, mul-cancel, mul-cancel_lt, mul-cancel_same, mul-mono, mul-mono_lt, mul-non_negative, mul-one, mul_neg, neg_add, neg_mul, neg_neg, ring, units, zero-mul}
-- greatest common divisors, and numbers that have no divisor in common
pub use Rattle.integer.proofs.GcdLaws.{IsGcd-scaled, coprime-quotients, coprime_mul, coprime_part, dvd_from_coprime, gcd-is, gcd_end, gcd_step}
-- fractions in lowest terms
pub use Rattle.integer.proofs.LowestLaws.{abs_quot, gcd_pos, lowest_neg, lowest_over, lowest_whole, quot_scaled, same_lowest}
