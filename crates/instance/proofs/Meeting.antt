-- The test of a point: its answer, and the steps of its loops.
use Rattle.std.proofs.Common.{◌≡◌, ◌∙◌, ◌<◌, ◌≤◌, ℕ, zero, suc, ◌&&◌, ◌||◌, not, ap, nat_eq, drop, List, [], ◌∷◌, length, Bool, true, false, cond, IsTrue, refl, sym, subst, arith, Result, Ok, Err, IfOk}
use Rattle.std.specs.Prelude.{◌↔◌}
use Rattle.std.proofs.lemmas.Bool.{and_parts}
use Rattle.std.proofs.lemmas.Bool.Decides.{nat_tests}
use Rattle.rational.specs.Rational.{Rational}
use Rattle.milp.specs.Form.{sum_at}
use Rattle.milp.specs.Problem.{Column, Row, Problem}
use Rattle.milp.specs.Points.{Feasible}
use Rattle.fraction.specs.declared.frac.NoFit.{NoFit}
use Rattle.rational.specs.Compare.{is_whole}
use Rattle.verdicts.specs.Proves.{lies_above, lies_below, meets_columns, meets_rows, meets}
use Rattle.verdicts.proofs.Laws.{meets_true, true_meets}
use Rattle.instance.specs.Sums.{rows_answer, meets_answer}
use Rattle.instance.proofs.Sums.{then_sum}

-- a test, and then what answers the rest
pub and_rest : (t b : Bool) (rest : Result Bool NoFit) → IfOk rest (λ c. c ≡ b) → IfOk (cond t rest (Ok false)) (λ c. c ≡ (t && b))
and_rest true b rest h = h
and_rest false b rest h = refl

pub rows_ok : (x : List Rational) (rows : List Row) → IfOk (rows_answer x rows) (λ b. b ≡ meets_rows false rows x)
rows_ok x [] = refl
rows_ok x (r ∷ rs) =
    let met : Rational → Bool = λ v. lies_above r.lower v && lies_below r.upper v in
    then_sum x r.entries (λ v. cond (met v) (rows_answer x rs) (Ok false)) (λ b. b ≡ meets_rows false (r ∷ rs) x) (and_rest (met (sum_at x r.entries)) (meets_rows false rs x) (rows_answer x rs) (rows_ok x rs))

feasible : (p : Problem) (x : List Rational) (r : Result Bool NoFit) → IfOk r (λ b. b ≡ meets p x) → IfOk r (λ b. IsTrue b ↔ Feasible p x)
feasible p x (Ok b) e = let P : Bool → Type 0 = λ b. IsTrue b ↔ Feasible p x in subst P (sym e) (meets_true p x, true_meets p x)
feasible p x (Err d) e = tt

pub meets_ok : (p : Problem) (x : List Rational) (r : Result Bool NoFit) → r ≡ meets_answer p x → IfOk r (λ b. IsTrue b ↔ Feasible p x)
meets_ok p x r h =
    let P : Result Bool NoFit → Type 0 = λ r. IfOk r (λ b. IsTrue b ↔ Feasible p x) in
    subst P (sym h) (feasible p x (meets_answer p x) (and_rest (meets_columns false p.columns x) (meets_rows false p.rows x) (rows_answer x p.rows) (rows_ok x p.rows)))

-- ---- the loop over the columns

pub same_size : (cs : List Column) (x : List Rational) → meets_columns false cs x ≡ true → length x ≡ length cs
same_size [] [] h = refl
same_size [] (v ∷ vs) h = cc
same_size (c ∷ cs) [] h = cc
same_size (c ∷ cs) (v ∷ vs) h = ap suc (same_size cs vs (and_parts (not c.integer || is_whole v) (meets_columns false cs vs) (and_parts (lies_above c.lower v && lies_below c.upper v) ((not c.integer || is_whole v) && meets_columns false cs vs) h).1).1)

pub meets_short : (cs : List Column) (x : List Rational) (i : ℕ) (b : Bool) → i < length cs → length x ≤ i → meets_columns false (drop i cs) (drop i x) ≡ b → false ≡ b
meets_short [] x i b h k e = absurd (omega arith)
meets_short (c ∷ cs) [] zero b h k e = e
meets_short (c ∷ cs) (v ∷ vs) zero b h k e = absurd (omega arith)
meets_short (c ∷ cs) [] (suc i) b h k e = meets_short cs [] i b (omega arith) (omega arith) (drop_nil cs i b e)
  where
    drop_nil : (cs : List Column) (i : ℕ) (b : Bool) → meets_columns false (drop i cs) [] ≡ b → meets_columns false (drop i cs) (drop i []) ≡ b
    drop_nil cs zero b e = e
    drop_nil cs (suc i) b e = e
meets_short (c ∷ cs) (v ∷ vs) (suc i) b h k e = meets_short cs vs i b (omega arith) (omega arith) e

pub meets_end : (cs : List Column) (x : List Rational) (i : ℕ) (b : Bool) → length cs ≡ i → i ≤ length x → meets_columns false (drop i cs) (drop i x) ≡ b → nat_eq (length x) (length cs) ≡ b
meets_end [] [] zero b h k e = e
meets_end [] (v ∷ vs) zero b h k e = let t : nat_eq (suc (length vs)) 0 ≡ false = grind (arith, nat_tests) in t ∙ e
meets_end [] x (suc i) b h k e = absurd (omega arith)
meets_end (c ∷ cs) x zero b h k e = absurd (omega arith)
meets_end (c ∷ cs) [] (suc i) b h k e = absurd (omega arith)
meets_end (c ∷ cs) (v ∷ vs) (suc i) b h k e = let t : nat_eq (suc (length vs)) (suc (length cs)) ≡ nat_eq (length vs) (length cs) = grind (arith, nat_tests) in t ∙ meets_end cs vs i b (omega arith) (omega arith) e
