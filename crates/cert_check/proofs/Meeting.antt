-- The loop over the columns in the test of a ray.
use Rattle.std.proofs.Common.{◌≡◌, ◌∙◌, ◌<◌, ◌≤◌, ℕ, zero, suc, nat_eq, drop, List, [], ◌∷◌, length, Bool, false, arith}
use Rattle.std.proofs.lemmas.Bool.Decides.{nat_tests}
use Rattle.rational.specs.Rational.{Rational}
use Rattle.milp.specs.Problem.{Column}
use Rattle.verdicts.specs.Proves.{meets_columns}

pub meets_short : (ray : Bool) (cs : List Column) (x : List Rational) (i : ℕ) (b : Bool) → i < length cs → length x ≤ i → meets_columns ray (drop i cs) (drop i x) ≡ b → false ≡ b
meets_short ray [] x i b h k e = absurd (omega arith)
meets_short ray (c ∷ cs) [] zero b h k e = e
meets_short ray (c ∷ cs) (v ∷ vs) zero b h k e = absurd (omega arith)
meets_short ray (c ∷ cs) [] (suc i) b h k e = meets_short ray cs [] i b (omega arith) (omega arith) (drop_nil cs i b e)
  where
    drop_nil : (cs : List Column) (i : ℕ) (b : Bool) → meets_columns ray (drop i cs) [] ≡ b → meets_columns ray (drop i cs) (drop i []) ≡ b
    drop_nil cs zero b e = e
    drop_nil cs (suc i) b e = e
meets_short ray (c ∷ cs) (v ∷ vs) (suc i) b h k e = meets_short ray cs vs i b (omega arith) (omega arith) e

pub meets_end : (ray : Bool) (cs : List Column) (x : List Rational) (i : ℕ) (b : Bool) → length cs ≡ i → i ≤ length x → meets_columns ray (drop i cs) (drop i x) ≡ b → nat_eq (length x) (length cs) ≡ b
meets_end ray [] [] zero b h k e = e
meets_end ray [] (v ∷ vs) zero b h k e = let t : nat_eq (suc (length vs)) 0 ≡ false = grind (arith, nat_tests) in t ∙ e
meets_end ray [] x (suc i) b h k e = absurd (omega arith)
meets_end ray (c ∷ cs) x zero b h k e = absurd (omega arith)
meets_end ray (c ∷ cs) [] (suc i) b h k e = absurd (omega arith)
meets_end ray (c ∷ cs) (v ∷ vs) (suc i) b h k e = let t : nat_eq (suc (length vs)) (suc (length cs)) ≡ nat_eq (length vs) (length cs) = grind (arith, nat_tests) in t ∙ meets_end ray cs vs i b (omega arith) (omega arith) e
