-- A basis whose fixed variables rest at their lower bounds has the same dictionary and the same point.
use Rattle.std.proofs.Common.{◌≡◌, ◌∙◌, ℕ, zero, suc, ◌+◌, ◌-◌, ◌<◌, ◌≤◌, List, [], ◌∷◌, ◌++◌, length, get_or, slice_get, refl, sym, ap, subst, arith, true, false, Bool, Option, Some, None, IfSome}
use Rattle.std.proofs.Math.Decide.{dec_lt}
use Rattle.std.specs.Prelude.{map}
use Rattle.std.specs.Option.{option_and_then}
use Rattle.std.proofs.lemmas.Option.{slice_get_read}
use Rattle.rational.specs.Rational.{Rational, ◌≤ℚ◌}
use Rattle.rational.proofs.Laws.{at_most_true, true_at_most, le_antisymm, le_refl}
use Rattle.milp.specs.Form.{Entry}
use Rattle.milp.specs.Points.{IsWithin}
use Rattle.milp.specs.Problem.{Column, Row, Problem}
use Rattle.verdicts.specs.Proves.{lower_under, upper_under}
use Rattle.basis.specs.Node.{column_bounds, row_bounds, derived_bounds}
use Rattle.basis.specs.System.{Bounds}
use Rattle.basis.specs.System.{System, lower_of, upper_of}
use Rattle.basis.specs.Dictionary.{place_of, IsBasic, IsResting, AllResting, Dictionary, IsDictionary, RestsAt}
use Rattle.basis.specs.declared.Place.{Place}
use Rattle.basis.specs.declared.Place.TheVariants.{Basic, AtLower, AtUpper, AtZero}
use Rattle.basis.proofs.Laws.{basic_known, length-columns, slice_get_left, row-lower, row-upper}
use Rattle.root_cuts.specs.RootBasis.{is_fixed, settled, root_system, settled_place, AreSettled}

-- ---- one place

abbrev upper_settled : Bool → Place
upper_settled true = AtLower
upper_settled false = AtUpper

upper_is : (l u : Option Rational) (t : Bool) → is_fixed l u ≡ t → settled l u AtUpper ≡ upper_settled t
upper_is l u true e = rw e refl
upper_is l u false e = rw e refl

by_test : {P : Type 0} (t : Bool) → (t ≡ true → P) → (t ≡ false → P) → P
by_test true f g = f refl
by_test false f g = g refl

pub settled_basic : (l u : Option Rational) (place : Place) → settled l u place ≡ Basic → place ≡ Basic
settled_basic l u Basic e = refl
settled_basic l u AtLower e = cc
settled_basic l u AtZero e = cc
settled_basic l u AtUpper e = by_test (is_fixed l u) (λ f. never (sym (upper_is l u true f) ∙ e)) (λ f. no (sym (upper_is l u false f) ∙ e))
  where
    never : {P : Type 0} → AtLower ≡ Basic → P
    never e = cc

    no : {P : Type 0} → AtUpper ≡ Basic → P
    no e = cc

-- what rests at its upper bound is not fixed
pub settled_upper : (l u : Option Rational) (place : Place) → settled l u place ≡ AtUpper → (place ≡ AtUpper) × (is_fixed l u ≡ false)
settled_upper l u Basic e = cc
settled_upper l u AtLower e = cc
settled_upper l u AtZero e = cc
settled_upper l u AtUpper e = by_test (is_fixed l u) (λ f. never (sym (upper_is l u true f) ∙ e)) (λ f. (refl, f))
  where
    never : {P : Type 0} → AtLower ≡ AtUpper → P
    never e = cc

fixed_at : (l u : Option Rational) (a : Rational) → is_fixed l u ≡ true → u ≡ Some a → IfSome l (λ b. b ≤ℚ a) → l ≡ Some a
fixed_at None u a f e low = cc
fixed_at (Some l) None a f e low = cc
fixed_at (Some l) (Some u) a f e low =
    let same : u ≡ a = cc in
    ap Some (le_antisymm l a low (subst (λ (b : Rational). b ≤ℚ l) same (at_most_true u l f)))

-- what is said of the bounds that are given: the variable rests where its place says
pub settled_rests : (s : System) (v : ℕ) (a : Rational) (place : Place) → IsWithin (lower_of s v) (upper_of s v) a → RestsAt s place v a → RestsAt s (settled (lower_of s v) (upper_of s v) place) v a
settled_rests s v a Basic inside h = h
settled_rests s v a AtLower inside h = h
settled_rests s v a AtZero inside h = h
settled_rests s v a AtUpper inside h = by_test (is_fixed (lower_of s v) (upper_of s v))
    (λ f. subst (λ place. RestsAt s place v a) (sym (upper_is (lower_of s v) (upper_of s v) true f)) (fixed_at (lower_of s v) (upper_of s v) a f h inside.low))
    (λ f. subst (λ place. RestsAt s place v a) (sym (upper_is (lower_of s v) (upper_of s v) false f)) h)

same_fixed : (l u : Option Rational) (a : Rational) → u ≡ Some a → l ≡ u → is_fixed l u ≡ true
same_fixed None u a e f = cc
same_fixed (Some l) None a e f = cc
same_fixed (Some l) (Some u) a e f =
    let same : l ≡ u = cc in
    true_at_most u l (subst (λ (b : Rational). u ≤ℚ b) (sym same) (le_refl u))

-- a fixed variable does not rest at its upper bound
pub fixed_below : (s : System) (v : ℕ) (a : Rational) (place : Place) → RestsAt s place v a → settled (lower_of s v) (upper_of s v) place ≡ AtUpper → ¬ (lower_of s v ≡ upper_of s v)
fixed_below s v a place h e f =
    let k = settled_upper (lower_of s v) (upper_of s v) place e in
    let there : upper_of s v ≡ Some a = subst (λ q. RestsAt s q v a) k.0 h in
    clash (sym (same_fixed (lower_of s v) (upper_of s v) a there f) ∙ k.1)
  where
    clash : ¬ (true ≡ false)
    clash e = cc

-- ---- all places

module _ (p : Problem) (b c : List Place) (h : AreSettled p b c) where
  pub basic_before : (v : ℕ) → IsBasic c v → IsBasic b v
  basic_before v k =
      let known = basic_known c v k in
      let n = h.size in
      settled_basic (lower_of (root_system p) v) (upper_of (root_system p) v) (place_of b v) (sym (h.places v (omega (arith, known, n))) ∙ k)

  pub basic_behind : (v : ℕ) → IsBasic b v → IsBasic c v
  basic_behind v k = h.places v (basic_known b v k) ∙ ap (settled (lower_of (root_system p) v) (upper_of (root_system p) v)) k

  pub rests_behind : (v : ℕ) → IsResting b v → IsResting c v
  rests_behind v k = record { known = (let n = h.size in let known = k.known in omega (arith, known, n)); not_basic = λ e. k.not_basic (basic_before v e) }

  pub rests_before : (v : ℕ) → IsResting c v → IsResting b v
  rests_before v k = record { known = (let n = h.size in let known = k.known in omega (arith, known, n)); not_basic = λ e. k.not_basic (basic_behind v e) }

  all_rest : (f : List Entry) → AllResting b f → AllResting c f
  all_rest [] k = tt
  all_rest (e ∷ f) k = (rests_behind e.column k.0, all_rest f k.1)

  pub settled_dictionary : (d : Dictionary) → IsDictionary (root_system p) b d → IsDictionary (root_system p) c d
  settled_dictionary d k = record {
    size = h.size ∙ k.size;
    over_resting = record { rows = λ v basic. all_rest (d.row v) (k.over_resting.rows v (basic_before v basic)); objective = all_rest d.objective k.over_resting.objective };
    same_points = λ x. (
      (λ l. record { values = λ v basic. ((k.same_points x).0 l).values v (basic_before v basic) }),
      (λ l. (k.same_points x).1 (record { values = λ v basic. l.values v (basic_behind v basic) })),
    );
    same_objective = k.same_objective;
  }

-- ---- the bounds of one variable

column_bounds_at : (p : Problem) (i count j : ℕ) → j < count → slice_get (column_bounds p [] i count) j ≡ Some (record { lower = lower_under p [] (i + j); upper = upper_under p [] (i + j) })
column_bounds_at p i zero j h = absurd (omega arith)
column_bounds_at p i (suc count) zero h = let e : i ≡ i + 0 = omega arith in ap (λ t. Some (record { lower = lower_under p [] t; upper = upper_under p [] t })) e
column_bounds_at p i (suc count) (suc j) h =
    let e : suc i + j ≡ i + suc j = omega arith in
    column_bounds_at p (suc i) count j (omega arith) ∙ ap (λ t. Some (record { lower = lower_under p [] t; upper = upper_under p [] t })) e

module _ (p : Problem) (b : List Place) (v : ℕ) (a : Place) (place : a ≡ place_of b v) where
  bounds_of_column : v < length p.columns → slice_get ((root_system p).bounds) v ≡ Some (record { lower = lower_under p [] v; upper = upper_under p [] v })
  bounds_of_column known =
      let n = length-columns p [] 0 (length p.columns) in
      let e : 0 + v ≡ v = omega arith in
      slice_get_left (column_bounds p [] 0 (length p.columns)) (map row_bounds p.rows ++ map derived_bounds []) v (rw n known) ∙ column_bounds_at p 0 (length p.columns) v known
      ∙ ap (λ t. Some (record { lower = lower_under p [] t; upper = upper_under p [] t })) e

  pub settled_column : (cs : List Column) (c : Column) → cs ≡ p.columns → v < length cs → c ≡ get_or cs v c → settled c.lower c.upper a ≡ settled_place p b v
  settled_column cs c same known read =
      let there : v < length p.columns = subst (λ (l : List Column). v < length l) same known in
      let e = slice_get_read p.columns (length p.columns) v c refl there (read ∙ ap (λ (l : List Column). get_or l v c) same) in
      let low : c.lower ≡ lower_of (root_system p) v = sym (ap (option_and_then (λ (t : Bounds). t.lower)) (bounds_of_column there) ∙ ap (option_and_then (λ (t : Column). t.lower)) e) in
      let high : c.upper ≡ upper_of (root_system p) v = sym (ap (option_and_then (λ (t : Bounds). t.upper)) (bounds_of_column there) ∙ ap (option_and_then (λ (t : Column). t.upper)) e) in
      ap (λ l. settled l c.upper a) low ∙ ap (λ u. settled (lower_of (root_system p) v) u a) high ∙ ap (settled (lower_of (root_system p) v) (upper_of (root_system p) v)) place

  pub settled_row : (n : ℕ) (rs : List Row) (r : Row) → n ≡ length p.columns → rs ≡ p.rows → n ≤ v → v < length p.columns + length p.rows → r ≡ get_or rs (v - n) r → settled r.lower r.upper a ≡ settled_place p b v
  settled_row n rs r count same high known read =
      let there : length p.columns + (v - n) ≡ v = omega (arith, high, count) in
      let inside : v - n < length p.rows = omega (arith, high, count, known) in
      let e = slice_get_read p.rows (length p.rows) (v - n) r refl inside (read ∙ ap (λ (l : List Row). get_or l (v - n) r) same) in
      let low : r.lower ≡ lower_of (root_system p) v = sym (row-lower p [] [] (v - n) r inside e) ∙ ap (lower_of (root_system p)) there in
      let up : r.upper ≡ upper_of (root_system p) v = sym (row-upper p [] [] (v - n) r inside e) ∙ ap (upper_of (root_system p)) there in
      ap (λ l. settled l r.upper a) low ∙ ap (λ u. settled (lower_of (root_system p) v) u a) up ∙ ap (settled (lower_of (root_system p) v) (upper_of (root_system p) v)) place

-- ---- places that are made one after another

pub one_more_place : (p : Problem) (b old new : List Place) (n : ℕ) (a : Place) → length old ≡ n → ((u : ℕ) → u < n → place_of old u ≡ settled_place p b u) → a ≡ settled_place p b n
    → new ≡ old ++ a ∷ [] → (u : ℕ) → u < n + 1 → place_of new u ≡ settled_place p b u
one_more_place p b old new n a size places last e u known = elim (dec_lt u n) [
  | yes low ↦ ap (λ l. place_of l u) e ∙ before old u (rw size low) ∙ places u low
  | no high ↦
      let there : u ≡ n = omega (arith, known, high) in
      ap (λ l. place_of l u) e ∙ ap (λ (k : ℕ). place_of (old ++ a ∷ []) k) (there ∙ sym size) ∙ pushed old ∙ last ∙ ap (settled_place p b) (sym there)
]
  where
    before : (l : List Place) (k : ℕ) → k < length l → place_of (l ++ a ∷ []) k ≡ place_of l k
    before [] k h = absurd (omega (arith, h))
    before (x ∷ l) zero h = refl
    before (x ∷ l) (suc k) h = before l k (omega (arith, h))

    pushed : (l : List Place) → place_of (l ++ a ∷ []) (length l) ≡ a
    pushed [] = refl
    pushed (x ∷ l) = pushed l

pub one_more : (old new : List Place) (a : Place) (n : ℕ) → length old ≡ n → new ≡ old ++ a ∷ [] → length new ≡ n + 1
one_more old new a n size e = ap length e ∙ longer old ∙ ap (λ m. m + 1) size
  where
    longer : (l : List Place) → length (l ++ a ∷ []) ≡ length l + 1
    longer [] = refl
    longer (x ∷ l) = let k = longer l in omega (arith, k)
