-- The numbers of all variables at the point of a basis.
use Rattle.std.proofs.Common.{◌≡◌, ◌∙◌, ℕ, ◌+◌, ◌-◌, ◌<◌, List, [], length, sym, ap, subst, arith, true, false, get_or, slice_get, Option, Some, IfSome}
use Rattle.std.specs.Prelude.{nat_lt}
use Rattle.std.proofs.Math.Decide.{dec_lt}
use Rattle.std.proofs.lemmas.Option.{slice_get-get_or, slice_get_past}
use Rattle.std.proofs.lemmas.Bool.Decides.{nat_tests}
use Rattle.rational.specs.Rational.{Rational}
use Rattle.milp.specs.Form.{Entry, value_at}
use Rattle.verdicts.specs.WeightedSums.{AllBelow}
use Rattle.basis.specs.System.{System, size, Satisfies, IsSystem, extended}
use Rattle.basis.proofs.Laws.{same_below}

-- the point of a system whose columns have the numbers z is that of its columns, extended
module _ (s : System) (h : IsSystem s) (z values : ℕ → Rational) (columns : (j : ℕ) → j < s.columns → z j ≡ values j) (solves : Satisfies s values) where
  form_at : (k : ℕ) → k < length s.forms → slice_get s.forms k ≡ Some (get_or s.forms k [])
  form_at k known = slice_get-get_or s.forms k [] known

  below : (k : ℕ) → k < length s.forms → AllBelow s.columns (get_or s.forms k [])
  below k known = subst (λ (o : Option (List Entry)). IfSome o (AllBelow s.columns)) (form_at k known) (h.forms k)

  sum_of : (k : ℕ) → k < length s.forms → values (s.columns + k) ≡ value_at values (get_or s.forms k [])
  sum_of k known = subst (λ (o : Option (List Entry)). IfSome o (λ f. values (s.columns + k) ≡ value_at values f)) (form_at k known) (solves.values k)

  pub extended_is : (v : ℕ) → v < size s → extended s z v ≡ values v
  extended_is v known = elim (dec_lt v s.columns) [
    | yes low ↦ (let e : nat_lt v s.columns ≡ true = grind (arith, nat_tests, low) in rw e (columns v low))
    | no high ↦
        let e : nat_lt v s.columns ≡ false = grind (arith, nat_tests, high) in
        let k : v - s.columns < length s.forms = omega (arith, known, high) in
        let there : s.columns + (v - s.columns) ≡ v = omega (arith, high) in
        rw e (same_below s.columns z values (get_or s.forms (v - s.columns) []) columns (below (v - s.columns) k) ∙ sym (sum_of (v - s.columns) k) ∙ ap values there)
  ]

-- numbers that are those of a point solve the system as it does
pub same_solves : (s : System) → IsSystem s → (x values : ℕ → Rational) → ((v : ℕ) → v < size s → x v ≡ values v) → Satisfies s values → Satisfies s x
same_solves s h x values same solves = record { values = values_of }
  where
    values_of : (k : ℕ) → IfSome (slice_get s.forms k) (λ f. x (s.columns + k) ≡ value_at x f)
    values_of k = elim (dec_lt k (length s.forms)) [
      | yes known ↦
          let form = slice_get-get_or s.forms k [] known in
          let below = subst (λ (o : Option (List Entry)). IfSome o (AllBelow s.columns)) form (h.forms k) in
          let sum = subst (λ (o : Option (List Entry)). IfSome o (λ f. values (s.columns + k) ≡ value_at values f)) form (solves.values k) in
          subst (λ (o : Option (List Entry)). IfSome o (λ f. x (s.columns + k) ≡ value_at x f)) (sym form)
          (same (s.columns + k) (omega (arith, known)) ∙ sum ∙ sym (same_below s.columns x values (get_or s.forms k []) (λ v low. same v (omega (arith, low))) below))
      | no past ↦ subst (λ (o : Option (List Entry)). IfSome o (λ f. x (s.columns + k) ≡ value_at x f)) (sym (slice_get_past s.forms k (omega (arith, past)))) tt
    ]
