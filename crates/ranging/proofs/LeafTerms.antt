-- What the test of two forms tells of their coefficients, and terms that are not there.
use Rattle.std.proofs.Common.{◌≡◌, ℕ, zero, suc, ◌<◌, Bool, true, false, List, [], sym, subst, None, IfSome, if◌then◌else◌, arith}
use Rattle.std.proofs.lemmas.Bool.{and_parts}
use Rattle.std.proofs.Math.Decide.{ℕ_discrete}
use Rattle.rational.specs.Rational.{zero_ℚ}
use Rattle.rational.specs.Compare.{is_less, is_same}
use Rattle.rational.proofs.Laws.{same_true}
use Rattle.milp.specs.Form.{Entry}
use Rattle.verdicts.specs.Certificate.{Item}
use Rattle.verdicts.specs.WeightedSums.{Weighted, coefficient_of}
use Rattle.verdicts.specs.Proves.{derived_term, split_term, same_form}

pub same_coefficients : (n : ℕ) (f g : List Entry) → same_form n f g ≡ true → (k : ℕ) → k < n → coefficient_of f k ≡ coefficient_of g k
same_coefficients zero f g h k l = absurd (omega arith)
same_coefficients (suc n) f g h k l =
    let both = and_parts (is_same (coefficient_of f n) (coefficient_of g n)) (same_form n f g) h in
    elim (ℕ_discrete k n) [
      | yes e ↦ let P : ℕ → Type 0 = λ i. coefficient_of f i ≡ coefficient_of g i in subst P (sym e) (same_true _ _ both.0)
      | no d ↦ same_coefficients n f g both.1 k (omega arith)
    ]

-- with no derived row no weight of one has a term
pub no_derived : (F : Weighted → Type 0) (i : Item) → IfSome (derived_term [] i) F
no_derived F i = go (is_less zero_ℚ i.weight)
  where
    go : (b : Bool) → IfSome (if b then None else None) F
    go true = tt
    go false = tt

-- with no split taken no weight of one has a term
pub no_split : (F : Weighted → Type 0) (i : Item) → IfSome (split_term [] i) F
no_split F i = go (is_less zero_ℚ i.weight)
  where
    go : (b : Bool) → IfSome (if b then None else None) F
    go true = tt
    go false = tt
