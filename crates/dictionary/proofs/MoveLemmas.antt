-- How a step moves the variables.
use Rattle.std.proofs.Common.{◌≡◌, ◌∙◌, ℕ, ◌<◌, ◌≤◌, ◌≢◌, List, length, refl, sym, ap, subst, arith, Bool, true, false, cond, ◌==◌}
use Rattle.std.specs.Prelude.{Result, Ok, Err, IfOk}
use Rattle.std.proofs.lemmas.Bool.Decides.{nat_tests}
use Rattle.rational.specs.Compare.{is_zero}
use Rattle.rational.specs.Rational.{Rational, zero_ℚ, one_ℚ, ◌+ℚ◌, ◌*ℚ◌}
use Rattle.rational.proofs.Laws as Q
use Rattle.rational.proofs.Laws.{zero_true}
use Rattle.milp.specs.Form.{number_at}
use Rattle.basis.specs.Dictionary.{place_of, IsBasic, IsResting, rate_of}
use Rattle.basis.specs.Bland.{IsDirection}
use Rattle.fraction.specs.Answers.{add_answer}
use Rattle.fraction.specs.Fits.{sum_fits}
use Rattle.fraction.specs.declared.frac.Op.TheVariants.{Add}
use Rattle.fraction.specs.declared.frac.NoFit.{NoFit}
use Rattle.dictionary.specs.Table.{Table, is_basic, dictionary_of}
use Rattle.dictionary.specs.Values.{direction_of, IsVariableFault, IsMoveFault}
use Rattle.dictionary.proofs.TableForms.{resting_test}

pub direction-self : (t : Table) (q v : ℕ) → (v == q) ≡ true → direction_of t q v ≡ one_ℚ
direction-self t q v e = rw e refl

pub direction-basic : (t : Table) (q v : ℕ) → (v == q) ≡ false → is_basic (place_of t.places v) ≡ true → direction_of t q v ≡ rate_of (dictionary_of t) q v
direction-basic t q v e f = rw (e, f) refl

direction-resting : (t : Table) (q v : ℕ) → (v == q) ≡ false → is_basic (place_of t.places v) ≡ false → direction_of t q v ≡ zero_ℚ
direction-resting t q v e f = rw (e, f) refl

pub moved_self : (t : Table) (q v : ℕ) (by x : Rational) (r : Result Rational NoFit) → (v == q) ≡ true → r ≡ add_answer x by → IfOk r (λ y. y ≡ x +ℚ by *ℚ direction_of t q v)
moved_self t q v by x r e f = subst (λ o. IfOk o (λ y. y ≡ x +ℚ by *ℚ direction_of t q v)) (sym f) (go (sum_fits x by))
  where
    same : x +ℚ by ≡ x +ℚ by *ℚ direction_of t q v
    same = ap (λ u. x +ℚ u) (sym (ap (λ u. by *ℚ u) (direction-self t q v e) ∙ Q.mul-one by))

    go : (u : Bool) → IfOk {E = NoFit} (cond u (Ok (x +ℚ by)) (Err (record { a = x; op = Add; b = by }))) (λ y. y ≡ x +ℚ by *ℚ direction_of t q v)
    go true = same
    go false = tt

pub moved_resting : (t : Table) (q v : ℕ) (by x : Rational) → (v == q) ≡ false → is_basic (place_of t.places v) ≡ false → x ≡ x +ℚ by *ℚ direction_of t q v
moved_resting t q v by x e f = sym (ap (λ u. x +ℚ by *ℚ u) (direction-resting t q v e f) ∙ ap (λ u. x +ℚ u) (Q.mul-zero by) ∙ Q.add-zero x)

pub moved_still : (t : Table) (q v : ℕ) (by x rate : Rational) → (v == q) ≡ false → is_basic (place_of t.places v) ≡ true → rate ≡ rate_of (dictionary_of t) q v → is_zero rate ≡ true
    → x ≡ x +ℚ by *ℚ direction_of t q v
moved_still t q v by x rate e f g h =
    sym (ap (λ u. x +ℚ by *ℚ u) (direction-basic t q v e f ∙ sym g ∙ zero_true rate h) ∙ ap (λ u. x +ℚ u) (Q.mul-zero by) ∙ Q.add-zero x)

pub moved_basic : (t : Table) (q v : ℕ) (by x rate : Rational) (r : Result Rational NoFit) → (v == q) ≡ false → is_basic (place_of t.places v) ≡ true → rate ≡ rate_of (dictionary_of t) q v
    → IfOk r (λ y. y ≡ rate *ℚ by +ℚ x) → IfOk r (λ y. y ≡ x +ℚ by *ℚ direction_of t q v)
moved_basic t q v by x rate (Ok y) e f g h = h ∙ Q.add_comm _ _ ∙ ap (λ u. x +ℚ u) (Q.mul_comm rate by ∙ ap (λ u. by *ℚ u) (g ∙ sym (direction-basic t q v e f)))
moved_basic t q v by x rate (Err y) e f g h = tt

pub move_fault : (t : Table) (q : ℕ) (by : Rational) (old new : List Rational) (v : ℕ) (d : Rational) (e : NoFit) → v < length old → length new ≡ length old → ((m : ℕ) → v ≤ m → number_at new m ≡ number_at old m)
    → d ≡ number_at new v → IsVariableFault t q by v d e → IsMoveFault t q by old e
move_fault t q by old new v d e h same left read fault = record { variable = v; known = h; fault = let P : Rational → Type 0 = λ x. IsVariableFault t q by v x e in subst P (read ∙ left v (omega arith)) fault }

-- ---- the direction in which q rises

pub is_direction : (t : Table) (q : ℕ) → IsResting t.places q → IsDirection t.places (dictionary_of t) q one_ℚ (direction_of t q)
is_direction t q h = record {
  mover = direction-self t q q (same q);
  others = λ v r n. direction-resting t q v (other v n) (resting_test (place_of t.places v) r.not_basic);
  basics = λ v b. (let n : v ≢ q = λ e. (let P : ℕ → Type 0 = IsBasic t.places in h.not_basic (subst P e b)) in
      direction-basic t q v (other v n) (ap is_basic b) ∙ sym (Q.one-mul _));
}
  where
    same : (v : ℕ) → (v == v) ≡ true
    same v = grind (arith, nat_tests)

    other : (v : ℕ) → v ≢ q → (v == q) ≡ false
    other v n = grind (arith, nat_tests)
