-- A point that meets each member of a list is a point of the problem with these bounds alone.
use Rattle.std.proofs.Common.{◌≡◌, ◌∙◌, ◌⊎◌, inl, inr, ℕ, Result, Ok, IfOk, List, [], ◌∷◌, length, Bool, true, false, refl, sym, subst, Option, Some, None, IfSome, IsTrue, slice_get}
use Rattle.rational.specs.Rational.{Rational, zero_ℚ, ◌≤ℚ◌}
use Rattle.rational.proofs.Laws as Q
use Rattle.fraction.specs.declared.frac.NoFit.{NoFit}
use Rattle.milp.specs.Form.{Entry, number_at, sum_at}
use Rattle.milp.specs.Problem.{Column, Row, Problem}
use Rattle.milp.specs.Points.{IsWithin, IsWhole, Feasible}
use Rattle.verdicts.specs.Proves.{lies_above, lies_below}
use Rattle.instance.specs.Sums.{sum_answer}
use Rattle.instance.proofs.Laws.{sum_fits_ok}
use Rattle.branch_search.specs.Plain.{NoneInteger}
use Rattle.infeasible_subset.specs.Members.{Side, Lower, Upper, Member, OfRow, OfColumn, same_member, has}
use Rattle.infeasible_subset.specs.Subsets.{kept_if, sub}
use Rattle.infeasible_subset.specs.Meeting.{lies_inside, MeetsOne, MeetsEach}
use Rattle.infeasible_subset.proofs.Lists.{either_way, same_members}
use Rattle.infeasible_subset.proofs.Subsets.{row_or_none, get_row, column_or_none, get_column, column_count}

-- where a row's sum fits, it is the row's sum
pub row_met : (s : Side) (lower upper : Option Rational) (x : List Rational) (es : List Entry) (v : Rational) → Ok v ≡ sum_answer x zero_ℚ es → IsTrue (lies_inside s lower upper v) → IsTrue (lies_inside s lower upper (sum_at x es))
row_met s lower upper x es v e h =
    let P : Result Rational NoFit → Type 0 = λ r. IfOk r (λ w. w ≡ sum_at x es) in
    let same : v ≡ sum_at x es = subst P (sym e) (sum_fits_ok x es) in
    subst (λ w. IsTrue (lies_inside s lower upper w)) same h

one_of : (p : Problem) (x : List Rational) (ms : List Member) → MeetsEach p x ms → (m : Member) → IsTrue (has ms m) → MeetsOne p x m
one_of p x [] h m t = cc
one_of p x (k ∷ ms) h m t = go (either_way (same_member k m) (has ms m) t) (one_of p x ms h.1 m)
  where
    go : IsTrue (same_member k m) ⊎ IsTrue (has ms m) → (IsTrue (has ms m) → MeetsOne p x m) → MeetsOne p x m
    go (inl same) more = subst (MeetsOne p x) (same_members k m same) h.0
    go (inr found) more = more found

above : (o : Option Rational) (v : Rational) (kept : Bool) → (IsTrue kept → IsTrue (lies_above o v)) → IfSome (kept_if kept o) (λ b. b ≤ℚ v)
above o v false h = tt
above None v true h = tt
above (Some b) v true h = Q.at_most_true b v (h refl)

below : (o : Option Rational) (v : Rational) (kept : Bool) → (IsTrue kept → IsTrue (lies_below o v)) → IfSome (kept_if kept o) (λ b. v ≤ℚ b)
below o v false h = tt
below None v true h = tt
below (Some b) v true h = Q.at_most_true v b (h refl)

within : (keep : Side → Bool) (lower upper : Option Rational) (v : Rational) → ((s : Side) → IsTrue (keep s) → IsTrue (lies_inside s lower upper v)) → IsWithin (kept_if (keep Lower) lower) (kept_if (keep Upper) upper) v
within keep lower upper v h = record {
  low = above lower v (keep Lower) (h Lower);
  high = below upper v (keep Upper) (h Upper);
}

pub each_met : (p : Problem) (x : List Rational) (ms : List Member) → NoneInteger p.columns → length x ≡ length p.columns → MeetsEach p x ms → Feasible (sub p (has ms)) x
each_met p x ms none size h = record {
  relaxed = record {
    size = size ∙ sym (column_count _ p.columns);
    columns = λ j. column j (slice_get p.columns j) (get_column _ p.columns j) (λ s t. one_of p x ms h (OfColumn j s) t);
    rows = λ i. row i (slice_get p.rows i) (get_row _ p.rows i) (λ s t. one_of p x ms h (OfRow i s) t);
  };
  integers = λ j. whole j (slice_get p.columns j) (get_column _ p.columns j) (none j);
}
  where
    column : (j : ℕ) (o : Option Column) {a : Option Column} → a ≡ column_or_none (λ s. has ms (OfColumn j s)) o → ((s : Side) → IsTrue (has ms (OfColumn j s)) → IfSome o (λ c. IsTrue (lies_inside s c.lower c.upper (number_at x j)))) → IfSome a (λ c. IsWithin c.lower c.upper (number_at x j))
    column j None e k = rw e tt
    column j (Some c) e k = rw e (within (λ s. has ms (OfColumn j s)) c.lower c.upper (number_at x j) k)

    row : (i : ℕ) (o : Option Row) {a : Option Row} → a ≡ row_or_none (λ s. has ms (OfRow i s)) o → ((s : Side) → IsTrue (has ms (OfRow i s)) → IfSome o (λ r. IsTrue (lies_inside s r.lower r.upper (sum_at x r.entries)))) → IfSome a (λ r. IsWithin r.lower r.upper (sum_at x r.entries))
    row i None e k = rw e tt
    row i (Some r) e k = rw e (within (λ s. has ms (OfRow i s)) r.lower r.upper (sum_at x r.entries) k)

    whole : (j : ℕ) (o : Option Column) {a : Option Column} → a ≡ column_or_none (λ s. has ms (OfColumn j s)) o → IfSome o (λ c. c.integer ≡ false) → IfSome a (λ c. IsTrue c.integer → IsWhole (number_at x j))
    whole j None e k = rw e tt
    whole j (Some c) e k = rw e (λ t. let never : true ≡ false = sym t ∙ k in cc)
