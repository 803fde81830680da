-- Weights that refute a problem refute it with the bounds alone that they use, and a point of many bounds is one of few.
use Rattle.std.proofs.Common.{◌≡◌, ◌∙◌, ℕ, zero, suc, List, [], ◌∷◌, Bool, true, false, ◌&&◌, not, refl, sym, ap, Option, Some, None, IfSome, IsTrue, slice_get, length, option_and_then, if◌then◌else◌}
use Rattle.rational.specs.Rational.{Rational, ◌≤ℚ◌, zero_ℚ, one_ℚ}
use Rattle.rational.specs.Compare.{is_less}
use Rattle.milp.specs.Form.{Entry, number_at, sum_at}
use Rattle.milp.specs.Problem.{Column, Row, Problem}
use Rattle.milp.specs.Points.{IsWithin, IsWhole, Feasible}
use Rattle.verdicts.specs.WeightedSums.{Weighted}
use Rattle.verdicts.specs.Certificate.{Two, Item, Weights}
use Rattle.verdicts.specs.Proves.{term, bound_used, row_term, column_term, joined, gathered, terms, refutes}
use Rattle.verdicts.proofs.Laws.{leaf_empty}
use Rattle.infeasible_subset.specs.Members.{Side, Lower, Upper, Member, OfRow, OfColumn, same_member}
use Rattle.infeasible_subset.specs.Subsets.{kept_if, sub_row, sub_rows, sub_column, sub_columns, sub, without, side_used, row_used, column_used, AllUse, UsesOnly, Refutes}

-- ---- a row and a column of the problem with fewer bounds

abbrev pub row_or_none : (Side → Bool) → Option Row → Option Row
row_or_none keep None = None
row_or_none keep (Some r) = Some (sub_row keep r)

pub get_row : (keep : ℕ → Side → Bool) (rs : List Row) (i : ℕ) → slice_get (sub_rows keep rs) i ≡ row_or_none (keep i) (slice_get rs i)
get_row keep [] i = refl
get_row keep (r ∷ rs) zero = refl
get_row keep (r ∷ rs) (suc i) = get_row (λ k. keep (suc k)) rs i

abbrev pub column_or_none : (Side → Bool) → Option Column → Option Column
column_or_none keep None = None
column_or_none keep (Some c) = Some (sub_column keep c)

pub get_column : (keep : ℕ → Side → Bool) (cs : List Column) (j : ℕ) → slice_get (sub_columns keep cs) j ≡ column_or_none (keep j) (slice_get cs j)
get_column keep [] j = refl
get_column keep (c ∷ cs) zero = refl
get_column keep (c ∷ cs) (suc j) = get_column (λ k. keep (suc k)) cs j

pub column_count : (keep : ℕ → Side → Bool) (cs : List Column) → length (sub_columns keep cs) ≡ length cs
column_count keep [] = refl
column_count keep (c ∷ cs) = ap suc (column_count (λ k. keep (suc k)) cs)

-- ---- fewer bounds

fewer : (a b : Bool) (lower : Option Rational) (P : Rational → Type 0) → (IsTrue a → IsTrue b) → IfSome (kept_if b lower) P → IfSome (kept_if a lower) P
fewer false b lower P h k = tt
fewer true true lower P h k = k
fewer true false lower P h k = let e = h refl in cc

within_fewer : (f g : Side → Bool) (lower upper : Option Rational) (v : Rational) → ((s : Side) → IsTrue (f s) → IsTrue (g s)) → IsWithin (kept_if (g Lower) lower) (kept_if (g Upper) upper) v → IsWithin (kept_if (f Lower) lower) (kept_if (f Upper) upper) v
within_fewer f g lower upper v h w = record {
  low = fewer (f Lower) (g Lower) lower (λ b. b ≤ℚ v) (h Lower) w.low;
  high = fewer (f Upper) (g Upper) upper (λ b. v ≤ℚ b) (h Upper) w.high;
}

-- a point that meets more bounds meets fewer
pub fewer_bounds : (p : Problem) (few many : Member → Bool) (x : List Rational) → ((m : Member) → IsTrue (few m) → IsTrue (many m)) → Feasible (sub p many) x → Feasible (sub p few) x
fewer_bounds p few many x h f = record {
  relaxed = record {
    size = f.relaxed.size ∙ column_count _ p.columns ∙ sym (column_count _ p.columns);
    columns = λ j. column j (slice_get p.columns j) (get_column _ p.columns j) (get_column _ p.columns j) (f.relaxed.columns j);
    rows = λ i. row i (slice_get p.rows i) (get_row _ p.rows i) (get_row _ p.rows i) (f.relaxed.rows i);
  };
  integers = λ j. whole j (slice_get p.columns j) (get_column _ p.columns j) (get_column _ p.columns j) (f.integers j);
}
  where
    column : (j : ℕ) (o : Option Column) {a b : Option Column} → a ≡ column_or_none (λ s. few (OfColumn j s)) o → b ≡ column_or_none (λ s. many (OfColumn j s)) o → IfSome b (λ c. IsWithin c.lower c.upper (number_at x j)) → IfSome a (λ c. IsWithin c.lower c.upper (number_at x j))
    column j None e g k = rw e tt
    column j (Some c) e g k = rw e (within_fewer (λ s. few (OfColumn j s)) (λ s. many (OfColumn j s)) c.lower c.upper (number_at x j) (λ s. h (OfColumn j s)) (rw g at k))

    row : (i : ℕ) (o : Option Row) {a b : Option Row} → a ≡ row_or_none (λ s. few (OfRow i s)) o → b ≡ row_or_none (λ s. many (OfRow i s)) o → IfSome b (λ r. IsWithin r.lower r.upper (sum_at x r.entries)) → IfSome a (λ r. IsWithin r.lower r.upper (sum_at x r.entries))
    row i None e g k = rw e tt
    row i (Some r) e g k = rw e (within_fewer (λ s. few (OfRow i s)) (λ s. many (OfRow i s)) r.lower r.upper (sum_at x r.entries) (λ s. h (OfRow i s)) (rw g at k))

    whole : (j : ℕ) (o : Option Column) {a b : Option Column} → a ≡ column_or_none (λ s. few (OfColumn j s)) o → b ≡ column_or_none (λ s. many (OfColumn j s)) o → IfSome b (λ c. IsTrue c.integer → IsWhole (number_at x j)) → IfSome a (λ c. IsTrue c.integer → IsWhole (number_at x j))
    whole j None e g k = rw e tt
    whole j (Some c) e g k = rw e (rw g at k)

-- ---- the terms of weights in the problem with fewer bounds

pub used_bound : (keep : Side → Bool) (w : Rational) (lower upper : Option Rational) → IsTrue (keep (side_used w)) → bound_used w (kept_if (keep Lower) lower) (kept_if (keep Upper) upper) ≡ bound_used w lower upper
used_bound keep w lower upper h = go (is_less zero_ℚ w) (keep Lower) (keep Upper) refl refl h
  where
    go : (b l u : Bool) → keep Lower ≡ l → keep Upper ≡ u → IsTrue (keep (if b then Lower else Upper)) → (if b then kept_if l lower else kept_if u upper) ≡ (if b then lower else upper)
    go true true u e g k = refl
    go true false u e g k = let l = rw e at k in cc
    go false l true e g k = refl
    go false l false e g k = let l = rw g at k in cc

row_same : (p : Problem) (keep : Member → Bool) (i : Item) → IsTrue (keep (row_used i)) → row_term (sub p keep) i ≡ row_term p i
row_same p keep i h = go (slice_get p.rows i.index) (get_row _ p.rows i.index)
  where
    go : (o : Option Row) {a : Option Row} → a ≡ row_or_none (λ s. keep (OfRow i.index s)) o → option_and_then (λ r. term i.weight r.entries (bound_used i.weight r.lower r.upper)) a ≡ option_and_then (λ r. term i.weight r.entries (bound_used i.weight r.lower r.upper)) o
    go None e = rw e refl
    go (Some r) e = rw e (ap (term i.weight r.entries) (used_bound (λ s. keep (OfRow i.index s)) i.weight r.lower r.upper h))

column_same : (p : Problem) (keep : Member → Bool) (i : Item) → IsTrue (keep (column_used i)) → column_term (sub p keep) [] i ≡ column_term p [] i
column_same p keep i h = go (slice_get p.columns i.index) (get_column _ p.columns i.index)
  where
    go : (o : Option Column) {a : Option Column} → a ≡ column_or_none (λ s. keep (OfColumn i.index s)) o → term i.weight (record { column = i.index; coefficient = one_ℚ } ∷ []) (bound_used i.weight (option_and_then (λ c. c.lower) a) (option_and_then (λ c. c.upper) a)) ≡ term i.weight (record { column = i.index; coefficient = one_ℚ } ∷ []) (bound_used i.weight (option_and_then (λ c. c.lower) o) (option_and_then (λ c. c.upper) o))
    go None e = rw e refl
    go (Some c) e = rw e (ap (term i.weight (record { column = i.index; coefficient = one_ℚ } ∷ [])) (used_bound (λ s. keep (OfColumn i.index s)) i.weight c.lower c.upper h))

gathered_same : (f g : Item → Option Weighted) (member : Item → Member) (keep : Member → Bool) (is : List Item) (a b : Option (List Weighted)) → ((i : Item) → IsTrue (keep (member i)) → f i ≡ g i) → AllUse member keep is → a ≡ b → gathered f is a ≡ gathered g is b
gathered_same f g member keep [] a b h k e = e
gathered_same f g member keep (i ∷ is) a b h k e = rw (h i k.0, gathered_same f g member keep is a b h k.1 e) refl

terms_same : (p : Problem) (keep : Member → Bool) (w : Weights) → UsesOnly keep w → terms (sub p keep) [] [] [] w ≡ terms p [] [] [] w
terms_same p keep w h =
    gathered_same _ _ row_used keep w.rows _ _ (row_same p keep) h.rows
    (gathered_same _ _ column_used keep w.columns _ _ (column_same p keep) h.columns refl)

-- weights that refute the problem refute it with the bounds alone that they use
pub refuted_with : (p : Problem) (keep : Member → Bool) (w : Weights) → UsesOnly keep w → Refutes p w → Refutes (sub p keep) w
refuted_with p keep w h r = record { passes = rw (column_count (λ j s. keep (OfColumn j s)) p.columns, terms_same p keep w h) r.passes }

pub none_meets : (p : Problem) (w : Weights) → Refutes p w → (x : List Rational) → ¬ (Feasible p x)
none_meets p w r x f = leaf_empty p Two None [] [] w x r.passes f.relaxed tt (λ k. tt)

-- ---- without one more

pub members_fewer : (m : Member) (few many : Member → Bool) → ((k : Member) → IsTrue (few k) → IsTrue (many k)) → (k : Member) → IsTrue (without m few k) → IsTrue (without m many k)
members_fewer m few many h k t = go (few k) (many k) (not (same_member m k)) (h k) t
  where
    go : (a b n : Bool) → (IsTrue a → IsTrue b) → IsTrue (a && n) → IsTrue (b && n)
    go true true n g t = t
    go true false n g t = let e = g refl in cc
    go false b n g t = cc

-- ---- the weights of a trial

bound_kept : (keep : Side → Bool) (w : Rational) (form : List Entry) (lower upper : Option Rational) (t : Weighted) → term w form (bound_used w (kept_if (keep Lower) lower) (kept_if (keep Upper) upper)) ≡ Some t → IsTrue (keep (side_used w))
bound_kept keep w form lower upper t h = go (is_less zero_ℚ w) (keep Lower) (keep Upper) refl refl h
  where
    go : (b l u : Bool) → keep Lower ≡ l → keep Upper ≡ u → term w form (if b then kept_if l lower else kept_if u upper) ≡ Some t → IsTrue (keep (if b then Lower else Upper))
    go true true u e g k = e
    go true false u e g k = cc
    go false l true e g k = g
    go false l false e g k = cc

row_kept : (p : Problem) (keep : Member → Bool) (i : Item) (t : Weighted) → row_term (sub p keep) i ≡ Some t → IsTrue (keep (row_used i))
row_kept p keep i t h = go (slice_get p.rows i.index) (get_row _ p.rows i.index) h
  where
    go : (o : Option Row) {a : Option Row} → a ≡ row_or_none (λ s. keep (OfRow i.index s)) o → option_and_then (λ r. term i.weight r.entries (bound_used i.weight r.lower r.upper)) a ≡ Some t → IsTrue (keep (row_used i))
    go None e k = let l = rw e at k in cc
    go (Some r) e k = bound_kept (λ s. keep (OfRow i.index s)) i.weight r.entries r.lower r.upper t (rw e at k)

column_kept : (p : Problem) (keep : Member → Bool) (i : Item) (t : Weighted) → column_term (sub p keep) [] i ≡ Some t → IsTrue (keep (column_used i))
column_kept p keep i t h = go (slice_get p.columns i.index) (get_column _ p.columns i.index) h
  where
    nothing : (b : Bool) → term i.weight (record { column = i.index; coefficient = one_ℚ } ∷ []) (if b then None else None) ≡ Some t → ⊥
    nothing true k = cc
    nothing false k = cc

    go : (o : Option Column) {a : Option Column} → a ≡ column_or_none (λ s. keep (OfColumn i.index s)) o → term i.weight (record { column = i.index; coefficient = one_ℚ } ∷ []) (bound_used i.weight (option_and_then (λ c. c.lower) a) (option_and_then (λ c. c.upper) a)) ≡ Some t → IsTrue (keep (column_used i))
    go None e k = absurd (nothing (is_less zero_ℚ i.weight) (rw e at k))
    go (Some c) e k = bound_kept (λ s. keep (OfColumn i.index s)) i.weight (record { column = i.index; coefficient = one_ℚ } ∷ []) c.lower c.upper t (rw e at k)

pub gathered_kept : (f : Item → Option Weighted) (member : Item → Member) (keep : Member → Bool) → ((i : Item) (t : Weighted) → f i ≡ Some t → IsTrue (keep (member i))) → (is : List Item) (a : Option (List Weighted)) (ts : List Weighted) → gathered f is a ≡ Some ts → AllUse member keep is × ((us : List Weighted) × (a ≡ Some us))
gathered_kept f member keep h [] a ts e = (tt, (ts, e))
gathered_kept f member keep h (i ∷ is) a ts e = go (gathered_kept f member keep h is a) (f i) (gathered f is a) refl refl e
  where
    go : ((us : List Weighted) → gathered f is a ≡ Some us → AllUse member keep is × ((vs : List Weighted) × (a ≡ Some vs))) → (o : Option Weighted) (r : Option (List Weighted)) → f i ≡ o → gathered f is a ≡ r → joined o r ≡ Some ts → AllUse member keep (i ∷ is) × ((us : List Weighted) × (a ≡ Some us))
    go more None r u v k = cc
    go more (Some t) None u v k = cc
    go more (Some t) (Some us) u v k = let rest = more us v in ((h i t u, rest.0), rest.1)

terms_kept : (p : Problem) (keep : Member → Bool) (w : Weights) (ts : List Weighted) → terms (sub p keep) [] [] [] w ≡ Some ts → UsesOnly keep w
terms_kept p keep w ts h =
    let rows = gathered_kept (row_term (sub p keep)) row_used keep (row_kept p keep) w.rows _ ts h in
    let columns = gathered_kept (column_term (sub p keep) []) column_used keep (column_kept p keep) w.columns _ rows.1.0 rows.1.1 in
    record { rows = rows.0; columns = columns.0 }

-- weights that refute the problem with some bounds use those alone, and refute the problem
pub trial_refutes : (p : Problem) (keep : Member → Bool) (w : Weights) → Refutes (sub p keep) w → UsesOnly keep w × Refutes p w
trial_refutes p keep w r = go (terms (sub p keep) [] [] [] w) refl r.passes
  where
    go : (o : Option (List Weighted)) → terms (sub p keep) [] [] [] w ≡ o → refutes (length (sub_columns (λ j s. keep (OfColumn j s)) p.columns)) o ≡ true → UsesOnly keep w × Refutes p w
    go None e k = cc
    go (Some ts) e k =
        let u = terms_kept p keep w ts e in
        (u, record { passes = rw (column_count (λ j s. keep (OfColumn j s)) p.columns, terms_same p keep w u) at r.passes })
