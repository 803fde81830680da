-- Far out on a face of optimal points no split is honest.
use Rattle.std.proofs.Common.{◌≡◌, ◌∙◌, ℕ, zero, suc, ◌<◌, [], Some, None, true, sym, ap, subst, arith}
use Rattle.std.proofs.lemmas.Option.{same_Some}
use Rattle.std.specs.Prelude.{ℤ, pos, ◌+ℤ◌}
use Rattle.std.proofs.lemmas.Int.{ints}
use Rattle.rational.specs.Rational.{Rational, whole, zero_ℚ, one_ℚ, ◌+ℚ◌, ◌<ℚ◌}
use Rattle.rational.proofs.Laws as Q
use Rattle.milp.specs.Form.{number_at}
use Rattle.verdicts.specs.Certificate.{Split}
use Rattle.certificate.specs.Written.{split_column}
use Rattle.basis.specs.System.{System}
use Rattle.basis.specs.Node.{system_of, integer_at}
use Rattle.search_tree.specs.AnyWhole.{any_whole_x}
use Rattle.search_tree.specs.Pinned.{number_of, IsAtRest, at_lower, at_upper, at_zero, IsPinned}
use Rattle.search_tree.specs.Nodes.{IsHonestSplit}

s : System
s = system_of any_whole_x [] []

never_whole : (q : Rational) (at : ℤ) → whole at <ℚ q → q <ℚ whole (at +ℤ pos 1) → q ≡ zero_ℚ → ⊥
never_whole q at above below e = go at (subst (λ a. whole at <ℚ a) e above) (subst (λ a. a <ℚ whole (at +ℤ pos 1)) e below)
  where
    go : (at : ℤ) → whole at <ℚ zero_ℚ → zero_ℚ <ℚ whole (at +ℤ pos 1) → ⊥
    go at a b = omega (arith, ints, a.cross, b.cross)

one_more : (q : Rational) → q +ℚ one_ℚ ≡ q → ⊥
one_more q e = never (Q.add_left_cancel q one_ℚ zero_ℚ (e ∙ sym (Q.add-zero q)))
  where
    never : one_ℚ ≡ zero_ℚ → ⊥
    never e = let f : pos 1 ≡ pos 0 = ap (λ (a : Rational). a.numerator) e in cc

pub no_split : (t : Split) → ¬ (IsHonestSplit any_whole_x [] [] t)
no_split t h = at_column (split_column t) h.integer h.pinned h.above h.below
  where
    at_column : (j : ℕ) → integer_at any_whole_x j ≡ true → IsPinned (system_of any_whole_x [] []) h.point j → whole t.at <ℚ number_at h.point j → number_at h.point j <ℚ whole (t.at +ℤ pos 1) → ⊥
    at_column (suc j) e pinned above below = cc
    at_column zero e pinned above below = one_more q (pinned.tells (λ u. q +ℚ one_ℚ) (record { values = λ k. tt }) agrees)
      where
        q : Rational
        q = number_at h.point 0

        not_zero : Some zero_ℚ ≡ Some q → ⊥
        not_zero e = never_whole q t.at above below (sym (same_Some _ _ e))

        agrees : (u : ℕ) → u < 1 → IsAtRest (system_of any_whole_x [] []) h.point u → q +ℚ one_ℚ ≡ number_of (system_of any_whole_x [] []) h.point u
        agrees (suc u) known rests = absurd (omega arith)
        agrees zero known (at_lower e) = absurd (not_zero e)
        agrees zero known (at_upper e) = cc
        agrees zero known (at_zero l u z) = let none : Some zero_ℚ ≡ None = l in cc
