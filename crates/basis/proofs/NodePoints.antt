-- A point of a node's system that is inside all bounds is a point of the node.
use Rattle.std.proofs.Common.{◌≡◌, ◌∙◌, ℕ, zero, suc, ◌+◌, ◌<◌, ◌≤◌, List, [], ◌∷◌, length, refl, sym, ap, subst, arith, Bool, true, false, Option, Some, None, IfSome, slice_get, if◌then◌else◌}
use Rattle.std.specs.Prelude.{option_and_then, pos, ◌+ℤ◌}
use Rattle.std.proofs.lemmas.Bool.Decides.{nat_tests}
use Rattle.std.proofs.lemmas.Option.{slice_get_within}
use Rattle.std.proofs.Math.Decide.{dec_lt}
use Rattle.rational.specs.Rational.{Rational, one_ℚ, whole, ◌≤ℚ◌}
use Rattle.milp.specs.Form.{Entry, number_at, sum_at}
use Rattle.milp.specs.Problem.{Column, Row, Problem}
use Rattle.milp.specs.Points.{IsWithin}
use Rattle.verdicts.specs.Certificate.{Side, Low, High, Derived}
use Rattle.rational.specs.Compare.{is_at_most, is_same}
use Rattle.verdicts.specs.WeightedSums.{AllBelow}
use Rattle.verdicts.specs.Proves.{lesser, greater, narrows, unit_column, is_column, lower_under, upper_under}
use Rattle.rational.proofs.Laws.{at_most_true, at_most_false}
use Rattle.rational.proofs.Laws as Q
use Rattle.basis.specs.System.{size, Satisfies, AllInside, form_of}
use Rattle.basis.specs.Node.{system_of, split_form, IsOverColumns, IsNodePoint}
use Rattle.basis.specs.Weights.{numbers_from}
use Rattle.basis.proofs.Lists.{length-numbers, numbers-below}
use Rattle.basis.proofs.Start.{same_below}
use Rattle.basis.proofs.Forms.{form_value, form_below}
use Rattle.basis.proofs.NodeSystems.{node_size, is_system}
use Rattle.basis.proofs.NodeTerms.{lower-column, upper-column, row-lower, row-upper, row-entries, derived-lower, derived-entries}

-- ---- bounds under splits are no wider

greater_above : (o : Option Rational) (b v : Rational) → greater o b ≤ℚ v → IfSome o (λ a. a ≤ℚ v)
greater_above None b v h = tt
greater_above (Some a) b v h = go (is_at_most a b) refl h
  where
    go : (t : Bool) → is_at_most a b ≡ t → (if t then b else a) ≤ℚ v → a ≤ℚ v
    go true e k = Q.le_trans a b v (at_most_true a b e) k
    go false e k = k

lesser_below : (o : Option Rational) (b v : Rational) → v ≤ℚ lesser o b → IfSome o (λ a. v ≤ℚ a)
lesser_below None b v h = tt
lesser_below (Some a) b v h = go (is_at_most a b) refl h
  where
    go : (t : Bool) → is_at_most a b ≡ t → v ≤ℚ (if t then a else b) → v ≤ℚ a
    go true e k = k
    go false e k = Q.le_trans v b a k (Q.le_of_lt b a (at_most_false a b e))

pub own_lower : (p : Problem) (sides : List Side) (j : ℕ) (v : Rational) → IfSome (lower_under p sides j) (λ b. b ≤ℚ v) → IfSome (lower_under p [] j) (λ b. b ≤ℚ v)
own_lower p [] j v h = h
own_lower p (Low s ∷ sides) j v h = own_lower p sides j v h
own_lower p (High s ∷ sides) j v h = own_lower p sides j v (go (narrows s j) h)
  where
    go : (t : Bool) → IfSome (if t then Some (greater (lower_under p sides j) (whole (s.at +ℤ pos 1))) else lower_under p sides j) (λ b. b ≤ℚ v) → IfSome (lower_under p sides j) (λ b. b ≤ℚ v)
    go true k = greater_above (lower_under p sides j) (whole (s.at +ℤ pos 1)) v k
    go false k = k

pub own_upper : (p : Problem) (sides : List Side) (j : ℕ) (v : Rational) → IfSome (upper_under p sides j) (λ b. v ≤ℚ b) → IfSome (upper_under p [] j) (λ b. v ≤ℚ b)
own_upper p [] j v h = h
own_upper p (High s ∷ sides) j v h = own_upper p sides j v h
own_upper p (Low s ∷ sides) j v h = own_upper p sides j v (go (narrows s j) h)
  where
    go : (t : Bool) → IfSome (if t then Some (lesser (upper_under p sides j) (whole s.at)) else upper_under p sides j) (λ b. v ≤ℚ b) → IfSome (upper_under p sides j) (λ b. v ≤ℚ b)
    go true k = lesser_below (upper_under p sides j) (whole s.at) v k
    go false k = k

-- a form over the first n columns narrows none behind them
beyond : (n : ℕ) (form : List Entry) (j : ℕ) → AllBelow n form → n ≤ j → is_column (unit_column form) j ≡ false
beyond n [] j h k = refl
beyond n (e ∷ []) j h k = go (is_same e.coefficient one_ℚ)
  where
    go : (b : Bool) → is_column (if b then Some e.column else None) j ≡ false
    go true = let less = h.0 in grind (arith, nat_tests)
    go false = refl
beyond n (e ∷ f ∷ es) j h k = refl

-- ---- the numbers of a point

module _ (p : Problem) (ds : List Derived) (sides : List Side) (over : IsOverColumns p ds sides) (x : ℕ → Rational) (solves : Satisfies (system_of p ds sides) x) where
  abbrev pub point : List Rational
  point = numbers_from 0 (length p.columns) x

  pub point_size : length (numbers_from 0 (length p.columns) x) ≡ length p.columns
  point_size = length-numbers 0 (length p.columns) x

  form_number : (v : ℕ) → v < size (system_of p ds sides) → sum_at (numbers_from 0 (length p.columns) x) (form_of (system_of p ds sides) v) ≡ x v
  form_number v h = same_below (length p.columns) (number_at (numbers_from 0 (length p.columns) x)) x (form_of (system_of p ds sides) v) (λ j k. numbers-below (length p.columns) x j k) (form_below (system_of p ds sides) v (is_system p ds sides over) h)
      ∙ form_value (system_of p ds sides) x v solves h

  pub row_known : (i : ℕ) → i < length p.rows → length p.columns + i < size (system_of p ds sides)
  row_known i h = let z = node_size p ds sides in omega arith

  pub row_number : (i : ℕ) (r : Row) → i < length p.rows → slice_get p.rows i ≡ Some r → sum_at (numbers_from 0 (length p.columns) x) r.entries ≡ x (length p.columns + i)
  row_number i r h e = ap (sum_at (numbers_from 0 (length p.columns) x)) (sym (row-entries p ds sides i r h e)) ∙ form_number (length p.columns + i) (row_known i h)

  derived_known : (k : ℕ) → k < length ds → length p.columns + length p.rows + k < size (system_of p ds sides)
  derived_known k h = let z = node_size p ds sides in omega arith

  derived_number : (k : ℕ) (d : Derived) → k < length ds → slice_get ds k ≡ Some d → sum_at (numbers_from 0 (length p.columns) x) d.form ≡ x (length p.columns + length p.rows + k)
  derived_number k d h e = ap (sum_at (numbers_from 0 (length p.columns) x)) (sym (derived-entries p ds sides k d e)) ∙ form_number (length p.columns + length p.rows + k) (derived_known k h)

  pub column_known : (j : ℕ) → j < length p.columns → j < size (system_of p ds sides)
  column_known j h = let z = node_size p ds sides in omega arith

module _ (p : Problem) (ds : List Derived) (sides : List Side) (over : IsOverColumns p ds sides) (x : ℕ → Rational) (solves : Satisfies (system_of p ds sides) x) (inside : AllInside (system_of p ds sides) x) where
  column_within : (j : ℕ) → j < length p.columns → IsWithin (lower_under p sides j) (upper_under p sides j) (x j)
  column_within j h =
      let k = inside j (column_known p ds sides over x solves j h) in
      record { low = rw (lower-column p ds sides j h) at k.low; high = rw (upper-column p ds sides j h) at k.high }

  column : (j : ℕ) (c : Column) → slice_get p.columns j ≡ Some c → IsWithin c.lower c.upper (number_at (numbers_from 0 (length p.columns) x) j)
  column j c e =
      let h : j < length p.columns = slice_get_within p.columns j c e in
      let k = column_within j h in
      let P : Option Column → Type 0 = λ o. IsWithin (option_and_then (λ (c : Column). c.lower) o) (option_and_then (λ (c : Column). c.upper) o) (x j) in
      let own : IsWithin (lower_under p [] j) (upper_under p [] j) (x j) = record { low = own_lower p sides j (x j) k.low; high = own_upper p sides j (x j) k.high } in
      let R : Rational → Type 0 = λ v. IsWithin c.lower c.upper v in
      subst R (sym (numbers-below (length p.columns) x j h)) (subst P e own)

  row : (i : ℕ) (r : Row) → slice_get p.rows i ≡ Some r → IsWithin r.lower r.upper (sum_at (numbers_from 0 (length p.columns) x) r.entries)
  row i r e =
      let h : i < length p.rows = slice_get_within p.rows i r e in
      let k = inside (length p.columns + i) (row_known p ds sides over x solves i h) in
      let R : Rational → Type 0 = λ v. IsWithin r.lower r.upper v in
      subst R (sym (row_number p ds sides over x solves i r h e)) (record { low = rw (row-lower p ds sides i r h e) at k.low; high = rw (row-upper p ds sides i r h e) at k.high })

  derived : (k : ℕ) (d : Derived) → slice_get ds k ≡ Some d → d.bound ≤ℚ sum_at (numbers_from 0 (length p.columns) x) d.form
  derived k d e =
      let h : k < length ds = slice_get_within ds k d e in
      let i = inside (length p.columns + length p.rows + k) (derived_known p ds sides over x solves k h) in
      let R : Rational → Type 0 = λ v. d.bound ≤ℚ v in
      subst R (sym (derived_number p ds sides over x solves k d h e)) (rw (derived-lower p ds sides k d e) at i.low)

  -- no bound, where there is no column
  past_lower : (ss : List Side) (j : ℕ) → ((k : ℕ) → IfSome (slice_get ss k) (λ side. AllBelow (length p.columns) (split_form side))) → length p.columns ≤ j → lower_under p ss j ≡ None
  past_lower [] j h k = past p.columns j k
    where
      past : (cs : List Column) (j : ℕ) → length cs ≤ j → option_and_then (λ (c : Column). c.lower) (slice_get cs j) ≡ None
      past [] j h = refl
      past (c ∷ cs) zero h = absurd (omega arith)
      past (c ∷ cs) (suc j) h = past cs j (omega arith)
  past_lower (Low s ∷ ss) j h k = past_lower ss j (λ i. h (suc i)) k
  past_lower (High s ∷ ss) j h k =
      let e : narrows s j ≡ false = beyond (length p.columns) s.form j (h 0) k in
      rw e (past_lower ss j (λ i. h (suc i)) k)

  past_upper : (ss : List Side) (j : ℕ) → ((k : ℕ) → IfSome (slice_get ss k) (λ side. AllBelow (length p.columns) (split_form side))) → length p.columns ≤ j → upper_under p ss j ≡ None
  past_upper [] j h k = past p.columns j k
    where
      past : (cs : List Column) (j : ℕ) → length cs ≤ j → option_and_then (λ (c : Column). c.upper) (slice_get cs j) ≡ None
      past [] j h = refl
      past (c ∷ cs) zero h = absurd (omega arith)
      past (c ∷ cs) (suc j) h = past cs j (omega arith)
  past_upper (High s ∷ ss) j h k = past_upper ss j (λ i. h (suc i)) k
  past_upper (Low s ∷ ss) j h k =
      let e : narrows s j ≡ false = beyond (length p.columns) s.form j (h 0) k in
      rw e (past_upper ss j (λ i. h (suc i)) k)

  all_within : (j : ℕ) → IsWithin (lower_under p sides j) (upper_under p sides j) (number_at (numbers_from 0 (length p.columns) x) j)
  all_within j = elim (dec_lt j (length p.columns)) [
    | yes low ↦ let R : Rational → Type 0 = λ v. IsWithin (lower_under p sides j) (upper_under p sides j) v in subst R (sym (numbers-below (length p.columns) x j low)) (column_within j low)
    | no high ↦ record { low = rw (past_lower sides j over.splits (omega arith)) tt; high = rw (past_upper sides j over.splits (omega arith)) tt }
  ]

  pub node_point : IsNodePoint p ds sides (numbers_from 0 (length p.columns) x)
  node_point = record {
    relaxed = record {
      size = length-numbers 0 (length p.columns) x;
      columns = λ j. of_some (slice_get p.columns j) (λ c. IsWithin c.lower c.upper (number_at (numbers_from 0 (length p.columns) x) j)) (λ c e. column j c e);
      rows = λ i. of_some (slice_get p.rows i) (λ r. IsWithin r.lower r.upper (sum_at (numbers_from 0 (length p.columns) x) r.entries)) (λ r e. row i r e);
    };
    columns = record { within = all_within };
    derived = λ k. of_some (slice_get ds k) (λ d. d.bound ≤ℚ sum_at (numbers_from 0 (length p.columns) x) d.form) (λ d e. derived k d e);
  }
    where
      of_some : {X : Type 0} (o : Option X) (P : X → Type 0) → ((c : X) → o ≡ Some c → P c) → IfSome o P
      of_some None P h = tt
      of_some (Some c) P h = h c refl
