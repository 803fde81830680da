-- min x, 1 <= 3 x <= 2, x >= 0 and whole: one split is honest, and none below it.
use Rattle.std.proofs.Common.{◌≡◌, ◌∙◌, ℕ, zero, suc, ◌<◌, ◌≤◌, List, [], ◌∷◌, true, refl, sym, ap, subst, arith, inl, inr}
use mathlib.Core.Path.{ap₂}
use Rattle.std.specs.Prelude.{ℤ, pos, negsuc, ◌+ℤ◌, IfSome, slice_get}
use Rattle.std.proofs.lemmas.Int.{ints}
use Rattle.rational.specs.Rational.{Rational, zero_ℚ, one_ℚ, whole, ◌+ℚ◌, ◌*ℚ◌, ◌≤ℚ◌, ◌<ℚ◌}
use Rattle.rational.proofs.Laws as Q
use Rattle.milp.specs.Form.{number_at}
use Rattle.milp.specs.Points.{Relaxed, Feasible, IsImprovingRay}
use Rattle.verdicts.specs.Certificate.{Side, Low, High, Split, Weights}
use Rattle.verdicts.specs.WeightedSums.{AllBelow}
use Rattle.certificate.specs.Written.{column_form, split_column}
use Rattle.basis.specs.Dictionary.{Dictionary}
use Rattle.basis.specs.Node.{system_of, integer_at, IsOverColumns}
use Rattle.basis.specs.Relaxation.{IsOptimalRelaxation}
use Rattle.basis.specs.declared.Place.{Place}
use Rattle.search_tree.specs.Pinned.{IsPinned}
use Rattle.search_tree.specs.Honest.{AreHonest}
use Rattle.search_tree.specs.Nodes.{IsRelaxedOptimum, IsHonestSplit}
use Rattle.search_tree.specs.Tree.{Tree, Divided, AtLeaf, AllSplits, made}
use Rattle.worked_problems.specs.Problems.{parted, at_zero}
use Rattle.worked_problems.proofs.Wholes.{less, at_most}
use Rattle.worked_problems.proofs.OneRow.{BasisLaws}
use Rattle.worked_problems.proofs.PartedX.{two, three, third, is_relaxation, third_above, third_below}

-- ---- between the row's bounds

module _ (x : List Rational) (h : Relaxed parted x) where
  row_low : one_ℚ ≤ℚ three *ℚ number_at x 0
  row_low = subst (λ y. one_ℚ ≤ℚ y) (Q.add-zero (three *ℚ number_at x 0)) (let row = h.rows 0 in row.low)

  row_high : three *ℚ number_at x 0 ≤ℚ two
  row_high = subst (λ y. y ≤ℚ two) (Q.add-zero (three *ℚ number_at x 0)) (let row = h.rows 0 in row.high)

  never_low : ¬ (number_at x 0 ≤ℚ zero_ℚ)
  never_low low =
      Q.lt-not-le zero_ℚ one_ℚ (less (pos 0) (pos 1) (omega (arith, ints)))
      (Q.le_trans _ _ _ row_low (subst (λ y. three *ℚ number_at x 0 ≤ℚ y) (Q.mul-zero three) (Q.mul-le-mul three (number_at x 0) zero_ℚ (at_most (pos 0) (pos 3) (omega (arith, ints))) low)))

  never_high : ¬ (one_ℚ ≤ℚ number_at x 0)
  never_high high =
      Q.lt-not-le two three (less (pos 2) (pos 3) (omega (arith, ints)))
      (Q.le_trans _ _ _ (subst (λ y. y ≤ℚ three *ℚ number_at x 0) (Q.mul-one three) (Q.mul-le-mul three one_ℚ (number_at x 0) (at_most (pos 0) (pos 3) (omega (arith, ints))) high)) row_high)

  -- a split with its number strictly between the sides is at 0
  split_at : (at : ℤ) → whole at <ℚ number_at x 0 → number_at x 0 <ℚ whole (at +ℤ pos 1) → at ≡ pos 0
  split_at (pos zero) above below = refl
  split_at (pos (suc n)) above below = absurd (never_high (Q.le_trans _ _ _ (at_most (pos 1) (pos (suc n)) (omega (arith, ints))) (Q.le_of_lt _ _ above)))
  split_at (negsuc n) above below = absurd (never_low (Q.le_trans _ _ _ (Q.le_of_lt _ _ below) (at_most (negsuc n +ℤ pos 1) (pos 0) (omega (arith, ints)))))

-- a whole number is at most 0 or at least 1
pub never_feasible : (x : List Rational) → ¬ (Feasible parted x)
never_feasible x h = elim (Q.whole_sides (number_at x 0).numerator (pos 0)) [
  | inl low ↦ never_low x h.relaxed (subst (λ y. y ≤ℚ zero_ℚ) (sym is_whole) low)
  | inr high ↦ never_high x h.relaxed (subst (λ y. one_ℚ ≤ℚ y) (sym is_whole) high)
]
  where
    is_whole : number_at x 0 ≡ whole (number_at x 0).numerator
    is_whole = Q.same_parts (number_at x 0) (whole (number_at x 0).numerator) refl (h.integers 0 refl)

-- x gets no better as it rises
pub no_ray : (r : List Rational) → ¬ (IsImprovingRay parted r)
no_ray r h = Q.lt-not-le _ _ h.improves (subst (λ v. zero_ℚ ≤ℚ v) (sym is) (let column = h.columns 0 in column.low))
  where
    is : one_ℚ *ℚ (one_ℚ *ℚ number_at r 0 +ℚ zero_ℚ) ≡ number_at r 0
    is = Q.one-mul (one_ℚ *ℚ number_at r 0 +ℚ zero_ℚ) ∙ Q.add-zero (one_ℚ *ℚ number_at r 0) ∙ Q.one-mul (number_at r 0)

-- ---- honest splits

integer_is_x : (j : ℕ) → integer_at parted j ≡ true → j ≡ 0
integer_is_x zero e = refl
integer_is_x (suc j) e = cc

root_split : (t : Split) → IsHonestSplit parted [] [] t → t ≡ at_zero
root_split t h =
    ap₂ (λ f n. let u : Split = record { form = f; at = n } in u) (h.form ∙ ap column_form at_x)
    (split_at h.point h.is_optimum.point.relaxed t.at (subst (λ j. whole t.at <ℚ number_at h.point j) at_x h.above) (subst (λ j. number_at h.point j <ℚ whole (t.at +ℤ pos 1)) at_x h.below))
  where
    at_x : split_column t ≡ 0
    at_x = integer_is_x (split_column t) h.integer

none_on_low : (t : Split) → ¬ (IsHonestSplit parted [] (Low at_zero ∷ []) t)
none_on_low t h = never_low h.point h.is_optimum.point.relaxed (let column = h.is_optimum.point.columns.within 0 in column.high)

none_on_high : (t : Split) → ¬ (IsHonestSplit parted [] (High at_zero ∷ []) t)
none_on_high t h = never_high h.point h.is_optimum.point.relaxed (let column = h.is_optimum.point.columns.within 0 in column.low)

-- the root, and the two sides of its split
pub data IsNode (sides : List Side) : Type 0 where
  root : sides ≡ [] → IsNode sides
  low : sides ≡ Low at_zero ∷ [] → IsNode sides
  high : sides ≡ High at_zero ∷ [] → IsNode sides

split_above : (above : List Side) (t : Split) → IsNode above → IsHonestSplit parted [] above t → (above ≡ []) × (t ≡ at_zero)
split_above above t (IsNode.root e) h = (e, root_split t (subst (λ sides. IsHonestSplit parted [] sides t) e h))
split_above above t (IsNode.low e) h = absurd (none_on_low t (subst (λ sides. IsHonestSplit parted [] sides t) e h))
split_above above t (IsNode.high e) h = absurd (none_on_high t (subst (λ sides. IsHonestSplit parted [] sides t) e h))

pub node_is : (sides : List Side) → AreHonest parted [] sides → IsNode sides
node_is [] way = IsNode.root refl
node_is (Low t ∷ above) way = let split = split_above above t (node_is above way.1) way.0 in IsNode.low (ap₂ (λ u rest. Low u ∷ rest) split.1 split.0)
node_is (High t ∷ above) way = let split = split_above above t (node_is above way.1) way.0 in IsNode.high (ap₂ (λ u rest. High u ∷ rest) split.1 split.0)

none_made : (side : Side) → ((t : Split) → ¬ (IsHonestSplit parted [] (side ∷ []) t)) → (t : Tree) → AllSplits (IsHonestSplit parted []) (side ∷ []) t → made t ≡ 0
none_made side none (Divided t left right) h = absurd (none t h.0)
none_made side none (AtLeaf leaf) h = refl

pub one_made : (t : Tree) → AllSplits (IsHonestSplit parted []) [] t → made t ≤ 1
one_made (AtLeaf leaf) h = omega arith
one_made (Divided t left right) h =
    let is = root_split t h.0 in
    let none_left : made left ≡ 0 = none_made (Low at_zero) none_on_low left (subst (λ u. AllSplits (IsHonestSplit parted []) (Low u ∷ []) left) is h.1) in
    let none_right : made right ≡ 0 = none_made (High at_zero) none_on_high right (subst (λ u. AllSplits (IsHonestSplit parted []) (High u ∷ []) right) is h.2) in
    omega arith

-- ---- the honest one

abbrev pub OptimaAreShown : Type 0
OptimaAreShown = (x : List Rational) (w : Weights) (b : List Place) (d : Dictionary) → IsOverColumns parted [] [] → IsOptimalRelaxation parted [] [] x w b d → IsRelaxedOptimum parted [] [] x

abbrev pub OptimaArePinned : Type 0
OptimaArePinned = (x : List Rational) (w : Weights) (b : List Place) (d : Dictionary) → IsOverColumns parted [] [] → IsOptimalRelaxation parted [] [] x w b d → (j : ℕ) → j < 1 → IsPinned (system_of parted [] []) x j

is_over_columns : IsOverColumns parted [] []
is_over_columns = record { objective = (omega arith, tt); rows = rows; derived = λ k. tt; splits = λ k. tt }
  where
    rows : (i : ℕ) → IfSome (slice_get parted.rows i) (λ r. AllBelow 1 r.entries)
    rows zero = (omega arith, tt)
    rows (suc i) = tt

pub is_honest : BasisLaws → OptimaAreShown → OptimaArePinned → IsHonestSplit parted [] [] at_zero
is_honest laws shown pinned = record {
  form = refl;
  integer = refl;
  point = third ∷ [];
  is_optimum = shown _ _ _ _ is_over_columns (is_relaxation laws);
  pinned = pinned _ _ _ _ is_over_columns (is_relaxation laws) 0 (omega arith);
  above = third_above;
  below = third_below;
}
