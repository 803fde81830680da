-- The parts that are made for a bound's end are those of its auxiliary problem.
use Rattle.std.proofs.Common.{◌≡◌, ◌∙◌, ◌+◌, ◌<◌, ◌≤◌, ◌==◌, ◌&&◌, not, nat_le, nat_lt, negsuc, ℕ, zero, suc, Bool, true, false, List, [], ◌∷◌, ◌++◌, length, get_or, refl, sym, ap, Some, slice_get, option_and_then, IsTrue, arith}
use Rattle.std.specs.List.{list_all}
use Rattle.std.proofs.lemmas.Bool.{and_parts, and_from, not_from_false, not-true, false_from_ne_true, ltb-true, lt-ltb}
use Rattle.std.proofs.lemmas.Bool.Decides.{nat_tests}
use Rattle.rational.specs.Rational.{Rational, zero_ℚ, whole, neg_ℚ, ◌*ℚ◌}
use Rattle.rational.specs.Compare.{is_zero}
use Rattle.rational.proofs.Laws as Q
use Rattle.milp.specs.Form.{Entry}
use Rattle.milp.specs.Problem.{Column, Row, Problem}
use Rattle.milp.specs.declared.Direction.{Direction}
use Rattle.milp.specs.declared.Direction.TheVariants.{Min, Max}
use Rattle.milp.specs.Points.{sign_of}
use Rattle.verdicts.specs.WeightedSums.{scaled}
use Rattle.verdicts.proofs.Laws.{minus_one-mul, neg-zero}
use Rattle.instance.specs.WellFormed.{are_entries_from, are_entries, IsWellFormed}
use Rattle.instance.proofs.Laws.{entries_within}
use Rattle.branch_search.specs.Plain.{NoneInteger}
use Rattle.ranging.specs.PlaceNames.{named_columns}
use Rattle.ranging.specs.CostAuxiliary.{entry_unless_zero}
use Rattle.ranging.specs.BoundRanges.{BoundSide, Lower, Upper, UsedBound, bound_of}
use Rattle.ranging.specs.BoundAuxiliary.{without_side, without_row_bound, less_distance, moved_row, moved_at, value_row, free_column, bound_auxiliary}
use Rattle.exact_ranges.specs.BoundParts.{bound_columns, bound_rows, without_at}
use Rattle.exact_ranges.specs.Parts.{AreForms, problem_of}
use Rattle.exact_ranges.proofs.Lists.{more}
use Rattle.exact_ranges.proofs.Entries.{from_lower, one_before}

-- ---- the rows

behind_same : (k i : ℕ) (s : BoundSide) (rs : List Row) → i < k → without_at k i s rs ≡ rs
behind_same k i s [] lt = refl
behind_same k i s (r ∷ rs) lt =
    let other : (k == i) ≡ false = grind (arith, nat_tests) in
    rw other (ap (λ qs. r ∷ qs) (behind_same (k + 1) i s rs (omega arith)))

without_from : (k d i : ℕ) (s : BoundSide) (rs : List Row) → i ≡ k + d → without_at k i s rs ≡ without_row_bound d s rs
without_from k d i s [] e = refl
without_from k zero i s (r ∷ rs) e =
    let same : (k == i) ≡ true = grind (arith, nat_tests) in
    rw same (ap (λ qs. without_side s r ∷ qs) (behind_same (k + 1) i s rs (omega arith)))
without_from k (suc d) i s (r ∷ rs) e =
    let other : (k == i) ≡ false = grind (arith, nat_tests) in
    rw other (ap (λ qs. r ∷ qs) (without_from (k + 1) d i s rs (omega arith)))

pub others_are : (i : ℕ) (s : BoundSide) (rs : List Row) → without_at 0 i s rs ≡ without_row_bound i s rs
others_are i s rs = without_from 0 i i s rs (omega arith)

pub moved_here : (n i : ℕ) (s : BoundSide) (b : Rational) (rs : List Row) (r : Row) → i < length rs → r ≡ get_or rs i r → moved_at n i s b rs ≡ moved_row n s b r
moved_here n i s b [] r lt is = absurd (omega arith)
moved_here n zero s b (q ∷ rs) r lt is = ap (moved_row n s b) (sym is)
moved_here n (suc i) s b (q ∷ rs) r lt is = moved_here n i s b rs r (omega arith) is

-- ---- the problem

pub is_auxiliary : (p : Problem) (u : UsedBound) (wanted : Direction) (cs : List Column) (rs : List Row) (n : ℕ)
    → cs ≡ bound_columns p → rs ≡ bound_rows p u → n ≡ length p.columns → problem_of cs rs wanted n ≡ bound_auxiliary p u wanted
is_auxiliary p u wanted cs rs n is_cs is_rs is_n = rw (is_cs, is_rs, is_n) refl

-- ---- it is well formed

-- a form, and another one behind it
then_form : (least n m : ℕ) (es fs : List Entry) → least ≤ n → n ≤ m → IsTrue (are_entries_from least n es) → IsTrue (are_entries_from n m fs) → IsTrue (are_entries_from least m (es ++ fs))
then_form least n m [] fs le up h k = from_lower least n m fs le k
then_form least n m (e ∷ es) fs le up h k =
    let low = and_parts (nat_le least e.column) (nat_lt e.column n && (not (is_zero e.coefficient) && are_entries_from (e.column + 1) n es)) h in
    let high = and_parts (nat_lt e.column n) (not (is_zero e.coefficient) && are_entries_from (e.column + 1) n es) low.1 in
    let some = and_parts (not (is_zero e.coefficient)) (are_entries_from (e.column + 1) n es) high.1 in
    let lt : e.column < n = ltb-true e.column n high.0 in
    and_from _ _ low.0 (and_from _ _ (lt-ltb e.column m (omega arith)) (and_from _ _ some.0 (then_form (e.column + 1) n m es fs (omega arith) up some.1 k)))

some_negated : (a : Rational) → is_zero a ≡ false → is_zero (neg_ℚ a) ≡ false
some_negated a h = false_from_ne_true (is_zero (neg_ℚ a)) (λ t. let back : a ≡ zero_ℚ = sym (Q.neg_neg a) ∙ ap neg_ℚ (Q.zero_true (neg_ℚ a) t) ∙ neg-zero in let both : is_zero a ≡ true = ap is_zero back in let never : true ≡ false = sym both ∙ h in cc)

some_signed : (d : Direction) (a : Rational) → is_zero a ≡ false → is_zero (sign_of d *ℚ a) ≡ false
some_signed Min a h = ap is_zero (Q.one-mul a) ∙ h
some_signed Max a h = ap is_zero (minus_one-mul a) ∙ some_negated a h

signed_form : (d : Direction) (least n : ℕ) (es : List Entry) → IsTrue (are_entries_from least n es) → IsTrue (are_entries_from least n (scaled (sign_of d) es))
signed_form d least n [] h = refl
signed_form d least n (e ∷ es) h =
    let low = and_parts (nat_le least e.column) (nat_lt e.column n && (not (is_zero e.coefficient) && are_entries_from (e.column + 1) n es)) h in
    let high = and_parts (nat_lt e.column n) (not (is_zero e.coefficient) && are_entries_from (e.column + 1) n es) low.1 in
    let some = and_parts (not (is_zero e.coefficient)) (are_entries_from (e.column + 1) n es) high.1 in
    and_from _ _ low.0 (and_from _ _ high.0 (and_from _ _ (not_from_false _ (some_signed d e.coefficient (not-true _ some.0))) (signed_form d (e.column + 1) n es some.1)))

last_entry : (n : ℕ) (c : Rational) → IsTrue (are_entries_from n (n + 1) (entry_unless_zero n c []))
last_entry n c = go (is_zero c) refl
  where
    go : (b : Bool) → is_zero c ≡ b → IsTrue (are_entries_from n (n + 1) (entry_unless_zero n c []))
    go true e = rw e refl
    go false e = rw e (one_before n (n + 1) n c [] (omega arith) (omega arith) e refl)

less_form : (n : ℕ) (es : List Entry) → IsTrue (are_entries n es) → IsTrue (are_entries (n + 1) (less_distance n es))
less_form n es h = then_form 0 n (n + 1) es (record { column = n; coefficient = whole (negsuc 0) } ∷ []) (omega arith) (omega arith) h (one_before n (n + 1) n (whole (negsuc 0)) [] (omega arith) (omega arith) refl refl)

moved_form : (n : ℕ) (s : BoundSide) (b : Rational) (r : Row) → IsTrue (are_entries n r.entries) → IsTrue (are_entries (n + 1) (moved_row n s b r).entries)
moved_form n Lower b r h = less_form n r.entries h
moved_form n Upper b r h = less_form n r.entries h

moved_at_form : (n i : ℕ) (s : BoundSide) (b : Rational) (rs : List Row) → AreForms n rs → IsTrue (are_entries (n + 1) (moved_at n i s b rs).entries)
moved_at_form n i s b [] h = refl
moved_at_form n zero s b (r ∷ rs) h = moved_form n s b r (and_parts (are_entries n r.entries) (list_all (λ (r : Row). are_entries n r.entries) rs) h).0
moved_at_form n (suc i) s b (r ∷ rs) h = moved_at_form n i s b rs (and_parts (are_entries n r.entries) (list_all (λ (r : Row). are_entries n r.entries) rs) h).1

same_entries : (s : BoundSide) (r : Row) → (without_side s r).entries ≡ r.entries
same_entries Lower r = refl
same_entries Upper r = refl

all_within : (n : ℕ) (rs : List Row) → AreForms n rs → AreForms (n + 1) rs
all_within n [] h = refl
all_within n (r ∷ rs) h =
    let parts = and_parts (are_entries n r.entries) (list_all (λ (r : Row). are_entries n r.entries) rs) h in
    and_from _ _ (entries_within 0 n (n + 1) (omega arith) r.entries parts.0) (all_within n rs parts.1)

others_within : (n i : ℕ) (s : BoundSide) (rs : List Row) → AreForms n rs → AreForms (n + 1) (without_row_bound i s rs)
others_within n i s [] h = refl
others_within n zero s (r ∷ rs) h =
    let parts = and_parts (are_entries n r.entries) (list_all (λ (r : Row). are_entries n r.entries) rs) h in
    and_from _ _ (ap (are_entries (n + 1)) (same_entries s r) ∙ entries_within 0 n (n + 1) (omega arith) r.entries parts.0) (all_within n rs parts.1)
others_within n (suc i) s (r ∷ rs) h =
    let parts = and_parts (are_entries n r.entries) (list_all (λ (r : Row). are_entries n r.entries) rs) h in
    and_from _ _ (entries_within 0 n (n + 1) (omega arith) r.entries parts.0) (others_within n i s rs parts.1)

pub are_forms : (p : Problem) (u : UsedBound) (cs : List Column) (rs : List Row) → IsWellFormed p.columns p.rows p.objective → cs ≡ bound_columns p → rs ≡ bound_rows p u → AreForms (length cs) rs
are_forms p u cs rs formed is_cs is_rs =
    let n = length p.columns in
    let size : length cs ≡ n + 1 = ap length is_cs ∙ more p.columns free_column in
    let value : IsTrue (are_entries (n + 1) (value_row p u).entries) = then_form 0 n (n + 1) (scaled (sign_of p.direction) p.objective) (entry_unless_zero n (neg_ℚ u.weight) []) (omega arith) (omega arith) (signed_form p.direction 0 n p.objective formed.objective_form) (last_entry n (neg_ℚ u.weight)) in
    let moved = moved_at_form n u.row u.side u.bound p.rows formed.row_forms in
    let others = others_within n u.row u.side p.rows formed.row_forms in
    rw (size, is_rs) (and_from _ _ value (and_from _ _ moved others))

pub has_last : (p : Problem) (cs : List Column) (n : ℕ) → cs ≡ bound_columns p → n ≡ length p.columns → n < length cs
has_last p cs n is_cs is_n = let size : length cs ≡ length p.columns + 1 = ap length is_cs ∙ more p.columns free_column in omega (arith, size, is_n)

none_with_distance : (k : ℕ) (cs : List Column) → NoneInteger cs → NoneInteger (named_columns k (cs ++ free_column ∷ []))
none_with_distance k [] h zero = refl
none_with_distance k [] h (suc j) = tt
none_with_distance k (c ∷ cs) h zero = h zero
none_with_distance k (c ∷ cs) h (suc j) = none_with_distance (suc k) cs (λ i. h (suc i)) j

pub auxiliary_continuous : (p : Problem) (u : UsedBound) (wanted : Direction) → NoneInteger p.columns → NoneInteger (bound_auxiliary p u wanted).columns
auxiliary_continuous p u wanted h = none_with_distance 0 p.columns h

-- a row with a bound is there
pub has_row : (s : BoundSide) (rs : List Row) (i : ℕ) (b : Rational) → option_and_then (bound_of s) (slice_get rs i) ≡ Some b → i < length rs
has_row s [] i b e = cc
has_row s (r ∷ rs) zero b e = omega arith
has_row s (r ∷ rs) (suc i) b e = let rest = has_row s rs i b e in omega (arith, rest)
