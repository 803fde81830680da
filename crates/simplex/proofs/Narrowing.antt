-- The bounds of columns under splits, one split after the other.
use Rattle.std.proofs.Common.{◌≡◌, ◌∙◌, ℕ, zero, suc, ◌+◌, ◌<◌, ◌≤◌, ◌≢◌, ◌==◌, List, [], ◌∷◌, ◌++◌, length, take, get_or, set, refl, sym, ap, subst, arith, true, false, Option, Some, None, IfSome, slice_get}
use Rattle.std.specs.Prelude.{pos, Result, Ok, Err, IfOk}
use mathlib.Core.Path.{ap₂}
use Rattle.std.proofs.Math.Decide.{dec_lt}
use Rattle.std.proofs.lemmas.Bool.Decides.{nat_tests}
use Rattle.std.proofs.lemmas.Option.{slice_get_past, slice_get_within, slice_get_read}
use Rattle.rational.specs.Rational.{Rational, one_ℚ, whole, ◌+ℚ◌}
use Rattle.rational.proofs.Laws.{whole-add}
use Rattle.milp.specs.Problem.{Problem}
use Rattle.verdicts.specs.Certificate.{Split, Side as SideOf, Low as LowOf, High as HighOf}
use Rattle.verdicts.specs.WeightedSums.{AllBelow}
use Rattle.verdicts.specs.Proves.{narrows, lower_under, upper_under, greater}
use Rattle.certificate.specs.Ways.{side_of}
use Rattle.certificate.specs.Written.{column_form, first_column, split_column, IsColumnSplit}
use Rattle.certificate.proofs.Laws.{column_narrows}
use Rattle.search_node.specs.Sides.{sides_of}
use Rattle.certificate.specs.declared.split.Side.{Side}
use Rattle.certificate.specs.declared.split.Side.TheVariants.{Low, High}
use Rattle.search_node.specs.declared.node.SplitTaken.{SplitTaken}
use Rattle.basis.specs.System.{Bounds}
use Rattle.basis.specs.Node.{column_bounds, split_form}
use Rattle.basis.proofs.Laws.{length-columns, slice_get_left, slice_get_right}
use Rattle.fraction.specs.declared.frac.NoFit.{NoFit}
use Rattle.simplex.specs.Narrowed.{narrowed_by, bounds_at, AreOnColumns, IsSplitFault, AreSplitFaults}

-- ---- sides

form_is : (split : Split) (side : Side) → split_form (side_of split side) ≡ split.form
form_is split Low = refl
form_is split High = refl

sides_more : (taken : List SplitTaken) (t : SplitTaken) → sides_of (taken ++ t ∷ []) ≡ side_of t.split t.side ∷ sides_of taken
sides_more [] t = refl
sides_more (x ∷ taken) t = ap (λ (l : List SideOf). l ++ side_of x.split x.side ∷ []) (sides_more taken t)

take_more : (taken : List SplitTaken) (i : ℕ) (t : SplitTaken) → slice_get taken i ≡ Some t → take (suc i) taken ≡ take i taken ++ t ∷ []
take_more [] i t e = absurd (none_some e)
  where
    none_some : ¬ (None ≡ Some t)
    none_some k = cc
take_more (x ∷ taken) zero t e = ap (λ (y : SplitTaken). y ∷ []) (same_some x t e)
  where
    same_some : (a b : SplitTaken) → Some a ≡ Some b → a ≡ b
    same_some a b k = cc
take_more (x ∷ taken) (suc i) t e = ap (λ (l : List SplitTaken). x ∷ l) (take_more taken i t e)

pub on_columns : (n : ℕ) (taken : List SplitTaken) → ((k : ℕ) → IfSome (slice_get (sides_of taken) k) (λ side. AllBelow n (split_form side))) → AreOnColumns n taken
on_columns n [] h k = tt
on_columns n (t ∷ taken) h zero =
    let P : Option SideOf → Type 0 = λ o. IfSome o (λ side. AllBelow n (split_form side)) in
    let last : AllBelow n (split_form (side_of t.split t.side)) = subst P (slice_get_right (sides_of taken) (side_of t.split t.side ∷ []) (length (sides_of taken)) 0 refl) (h (length (sides_of taken) + 0)) in
    subst (AllBelow n) (form_is t.split t.side) last
on_columns n (t ∷ taken) h (suc k) = on_columns n taken front k
  where
    front : (m : ℕ) → IfSome (slice_get (sides_of taken) m) (λ side. AllBelow n (split_form side))
    front m = let P : Option SideOf → Type 0 = λ o. IfSome o (λ side. AllBelow n (split_form side)) in elim (dec_lt m (length (sides_of taken))) [
      | yes low ↦ subst P (slice_get_left (sides_of taken) (side_of t.split t.side ∷ []) m low) (h m)
      | no past ↦ subst P (sym (slice_get_past (sides_of taken) m (omega arith))) tt
    ]

side_place : (taken : List SplitTaken) (i : ℕ) (t : SplitTaken) → slice_get taken i ≡ Some t → (m : ℕ) × (slice_get (sides_of taken) m ≡ Some (side_of t.split t.side))
side_place [] i t e = absurd (none_some e)
  where
    none_some : ¬ (None ≡ Some t)
    none_some k = cc
side_place (x ∷ taken) zero t e = (length (sides_of taken) + 0, slice_get_right (sides_of taken) (side_of x.split x.side ∷ []) (length (sides_of taken)) 0 refl ∙ ap (λ (y : SplitTaken). Some (side_of y.split y.side)) (same_some x t e))
  where
    same_some : (a b : SplitTaken) → Some a ≡ Some b → a ≡ b
    same_some a b k = cc
side_place (x ∷ taken) (suc i) t e =
    let place = side_place taken i t e in
    (place.0, slice_get_left (sides_of taken) (side_of x.split x.side ∷ []) place.0 (slice_get_within (sides_of taken) place.0 (side_of t.split t.side) place.1) ∙ place.1)

pub split_fault : (taken : List SplitTaken) (i : ℕ) (t : SplitTaken) (f : NoFit) → slice_get taken i ≡ Some t → IsSplitFault (side_of t.split t.side) f → AreSplitFaults (sides_of taken) f
split_fault taken i t f e h = let place = side_place taken i t e in record { index = place.0; side = side_of t.split t.side; is_side = place.1; fault = h }

-- ---- bounds under one more side

abbrev under : Problem → List SideOf → ℕ → Bounds
under p sides j = record { lower = lower_under p sides j; upper = upper_under p sides j }

narrows_its_column : (s : Split) (i j : ℕ) → s.form ≡ column_form i → narrows s j ≡ (i == j)
narrows_its_column s i j e = let own : split_column s ≡ i = ap first_column e in column_narrows s j (e ∙ ap column_form (sym own)) ∙ ap (λ k. k == j) own

narrows_no_other : (s : Split) (i j : ℕ) → s.form ≡ column_form i → i ≢ j → narrows s j ≡ false
narrows_no_other s i j e h = let test : (i == j) ≡ false = grind (arith, nat_tests) in narrows_its_column s i j e ∙ test

narrows_it : (s : Split) (j : ℕ) → s.form ≡ column_form j → narrows s j ≡ true
narrows_it s j e = let test : (j == j) ≡ true = grind (arith, nat_tests) in narrows_its_column s j j e ∙ test

under_other : (p : Problem) (sides : List SideOf) (side : SideOf) (i j : ℕ) → split_form side ≡ column_form i → i ≢ j → under p sides j ≡ under p (side ∷ sides) j
under_other p sides (LowOf s) i j e h = let test : narrows s j ≡ false = narrows_no_other s i j e h in rw test refl
under_other p sides (HighOf s) i j e h = let test : narrows s j ≡ false = narrows_no_other s i j e h in rw test refl

under_same : (p : Problem) (sides : List SideOf) (side : SideOf) (j : ℕ) → split_form side ≡ column_form j → narrowed_by side (under p sides j) ≡ under p (side ∷ sides) j
under_same p sides (LowOf s) j e = let test : narrows s j ≡ true = narrows_it s j e in rw test refl
under_same p sides (HighOf s) j e = let test : narrows s j ≡ true = narrows_it s j e in rw test refl

later : (p : Problem) (sides : List SideOf) (side : SideOf) (n j i : ℕ) → split_form side ≡ column_form j → j < i → column_bounds p sides i n ≡ column_bounds p (side ∷ sides) i n
later p sides side zero j i e h = refl
later p sides side (suc n) j i e h = ap₂ (λ (b : Bounds) (rest : List Bounds). b ∷ rest) (under_other p sides side j i e (λ k. absurd (omega arith))) (later p sides side n j (suc i) e (omega arith))

narrowed_columns : (p : Problem) (sides : List SideOf) (side : SideOf) (n i j : ℕ) → split_form side ≡ column_form (i + j) → j < n → set (column_bounds p sides i n) j (narrowed_by side (under p sides (i + j))) ≡ column_bounds p (side ∷ sides) i n
narrowed_columns p sides side zero i j e h = absurd (omega arith)
narrowed_columns p sides side (suc n) i zero e h =
    let at : i + 0 ≡ i = omega arith in
    ap₂ (λ (b : Bounds) (rest : List Bounds). b ∷ rest) (ap (λ m. narrowed_by side (under p sides m)) at ∙ under_same p sides side i (e ∙ ap column_form at)) (later p sides side n i (suc i) (e ∙ ap column_form at) (omega arith))
narrowed_columns p sides side (suc n) i (suc j) e h =
    let at : i + suc j ≡ suc i + j = omega arith in
    ap₂ (λ (b : Bounds) (rest : List Bounds). b ∷ rest) (under_other p sides side (i + suc j) i e (λ k. absurd (omega arith)))
    (ap (λ m. set (column_bounds p sides (suc i) n) j (narrowed_by side (under p sides m))) at ∙ narrowed_columns p sides side n (suc i) j (e ∙ ap column_form at) (omega arith))

bounds_there : (p : Problem) (sides : List SideOf) (n i j : ℕ) → j < n → bounds_at (column_bounds p sides i n) j ≡ under p sides (i + j)
bounds_there p sides zero i j h = absurd (omega arith)
bounds_there p sides (suc n) i zero h = let at : i ≡ i + 0 = omega arith in ap (under p sides) at
bounds_there p sides (suc n) i (suc j) h = let at : suc i + j ≡ i + suc j = omega arith in bounds_there p sides n (suc i) j (omega arith) ∙ ap (under p sides) at

one_more_side : (p : Problem) (sides : List SideOf) (side : SideOf) (n j : ℕ) → split_form side ≡ column_form j → j < n → set (column_bounds p sides 0 n) j (narrowed_by side (bounds_at (column_bounds p sides 0 n) j)) ≡ column_bounds p (side ∷ sides) 0 n
one_more_side p sides side n j e h =
    let at : j ≡ 0 + j = omega arith in
    ap (λ b. set (column_bounds p sides 0 n) j (narrowed_by side b)) (bounds_there p sides n 0 j h) ∙ narrowed_columns p sides side n 0 j (e ∙ ap column_form at) h

pub split_on : (n : ℕ) (taken : List SplitTaken) (i : ℕ) (t : SplitTaken) → AreOnColumns n taken → slice_get taken i ≡ Some t → IsColumnSplit t.split → split_column t.split < n
split_on n taken i t h e is =
    let P : Option SplitTaken → Type 0 = λ o. IfSome o (λ s. AllBelow n s.split.form) in
    let below : AllBelow n (column_form (split_column t.split)) = subst (AllBelow n) is.form (subst P e (h i)) in
    below.0

pub one_more_split : (p : Problem) (taken : List SplitTaken) (i : ℕ) (t : SplitTaken) (old new : List Bounds) → AreOnColumns (length p.columns) taken → slice_get taken i ≡ Some t → IsColumnSplit t.split → old ≡ column_bounds p (sides_of (take i taken)) 0 (length p.columns)
    → new ≡ set old (split_column t.split) (narrowed_by (side_of t.split t.side) (bounds_at old (split_column t.split))) → new ≡ column_bounds p (sides_of (take (i + 1) taken)) 0 (length p.columns)
one_more_split p taken i t old new on e is f g =
    let n = length p.columns in
    let one : suc i ≡ i + 1 = omega arith in
    g ∙ ap (λ l. set l (split_column t.split) (narrowed_by (side_of t.split t.side) (bounds_at l (split_column t.split)))) f
    ∙ one_more_side p (sides_of (take i taken)) (side_of t.split t.side) n (split_column t.split) (form_is t.split t.side ∙ is.form) (split_on n taken i t on e is)
    ∙ ap (λ sides. column_bounds p sides 0 n) (sym (sides_more (take i taken) t)) ∙ ap (λ l. column_bounds p (sides_of l) 0 n) (sym (take_more taken i t e)) ∙ ap (λ m. column_bounds p (sides_of (take m taken)) 0 n) one

pub split_read : (taken : List SplitTaken) (i : ℕ) (t : SplitTaken) → i < length taken → t ≡ get_or taken i t → slice_get taken i ≡ Some t
split_read taken i t h e = slice_get_read taken (length taken) i t refl h e

-- ---- the next whole number

next_bounds : (split : Split) (at : Rational) (old new : Bounds) → at ≡ whole split.at → new ≡ record { lower = Some (greater old.lower (at +ℚ one_ℚ)); upper = old.upper } → new ≡ narrowed_by (side_of split High) old
next_bounds split at old new e f = f ∙ ap (λ a. record { lower = Some (greater old.lower a); upper = old.upper }) (ap (λ a. a +ℚ one_ℚ) e ∙ whole-add split.at (pos 1))

pub narrowed_high : (split : Split) (side : Side) (at : Rational) (old : Bounds) (r : Result Bounds NoFit) → side ≡ High → at ≡ whole split.at → IfOk r (λ b. b ≡ record { lower = Some (greater old.lower (at +ℚ one_ℚ)); upper = old.upper })
    → IfOk r (λ b. b ≡ narrowed_by (side_of split side) old)
narrowed_high split side at old (Ok b) e f h = next_bounds split at old b f h ∙ ap (λ (s : Side). narrowed_by (side_of split s) old) (sym e)
narrowed_high split side at old (Err g) e f h = tt

pub length_under : (p : Problem) (sides : List SideOf) (bounds : List Bounds) → bounds ≡ column_bounds p sides 0 (length p.columns) → length bounds ≡ length p.columns
length_under p sides bounds e = ap (λ (l : List Bounds). length l) e ∙ length-columns p sides 0 (length p.columns)
