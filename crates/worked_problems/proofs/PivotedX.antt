-- min -x, x <= 2, x >= 0: x rises to the row's bound, and each operation of the work fits.
use Rattle.std.proofs.Common.{◌≡◌, ◌∙◌, ℕ, zero, suc, ◌<◌, ◌⊎◌, List, [], ◌∷◌, ◌==◌, cond, false, Option, Some, None, refl, sym, ap, subst, arith, inl, inr}
use Rattle.std.proofs.lemmas.Option.{same_Some}
use mathlib.Core.Path.{ap₂}
use Rattle.std.specs.Prelude.{pos, negsuc, IsOk}
use Rattle.std.proofs.lemmas.Int.{ints}
use Rattle.integer.specs.Gcd.{gcd, gcd_within}
use Rattle.rational.specs.Rational.{Rational, zero_ℚ, one_ℚ, whole, over, inv_ℚ, neg_ℚ, ◌+ℚ◌, ◌*ℚ◌, ◌≤ℚ◌, ◌<ℚ◌}
use Rattle.rational.proofs.Laws as Q
use Rattle.milp.specs.Form.{number_at}
use Rattle.milp.specs.Points.{IsImprovingRay}
use Rattle.basis.specs.System.{System, AreBoundsInOrder}
use Rattle.basis.specs.Dictionary.{Dictionary, IsDictionary, rate_of, gain_of, IsBasicPoint}
use Rattle.basis.specs.Bland.{start_dictionary, start_point, HasPassed, IsOutside, CanRaise, Improves, IsHeading, IsDirection, Reaches, IsFirst, ImproveStep, BlandStep, IsRun}
use Rattle.basis.specs.Node.{system_of, integer_at}
use Rattle.basis.specs.Operations.{LiesAhead}
use Rattle.basis.specs.declared.Place.{Place}
use Rattle.basis.specs.declared.Place.TheVariants.{Basic, AtLower, AtUpper, AtZero}
use Rattle.basis.proofs.Laws.{neg_below}
use Rattle.cert_check.specs.Parts.{node_answer}
use Rattle.verdicts.specs.Certificate.{Bound}
use Rattle.verdicts.specs.Migrated.{named}
use Rattle.search_tree.specs.Work.{node_setting}
use Rattle.worked_problems.specs.Problems.{pivoted}
use Rattle.branch_search.specs.declared.whole_fault.Wanted.TheVariants.{Best, Any}
use Rattle.worked_problems.specs.Unhindered.{IsUnhindered, AreUnhindered}
use Rattle.worked_problems.proofs.Fitting.{none_some}
use Rattle.worked_problems.proofs.Wholes.{less, irreflexive}
use Rattle.worked_problems.proofs.Unsplit.{none_whole, unhindered}
use Rattle.worked_problems.proofs.OneRow.{BasisLaws, first, basic_is_row, resting_is_x, x_rests, is_start, is_dictionary, is_point, row_is, gain_is, rate_is, outside_is_row}
use Rattle.worked_problems.proofs.Turning.{turning, second, DoFit, Turns, never_limited}
use Rattle.worked_problems.proofs.Turned.{weighed, DoTestsFit, no_fault}

abbrev two : Rational
two = whole (pos 2)

abbrev minus_one : Rational
minus_one = whole (negsuc 0)

abbrev gain : Rational
gain = one_ℚ *ℚ minus_one

abbrev s : System
s = turning one_ℚ None (Some two) gain

falls : gain <ℚ zero_ℚ
falls = subst (λ g. g <ℚ zero_ℚ) (sym (Q.one-mul minus_one)) (less (negsuc 0) (pos 0) (omega (arith, ints)))

row_at_zero : (x : ℕ → Rational) → IsBasicPoint s first x → x 1 ≡ zero_ℚ
row_at_zero x h = row_is zero_ℚ None one_ℚ None (Some two) gain x h ∙ Q.mul-zero one_ℚ

two_is : (b : Rational) → Some two ≡ Some b → b ≡ two
two_is b e = sym (same_Some _ _ e)

none_outside : (x : ℕ → Rational) (v : ℕ) → IsBasicPoint s first x → ¬ (IsOutside s first x v)
none_outside x v h k = go (outside_is_row zero_ℚ None one_ℚ None (Some two) gain x v k).1
  where
    go : HasPassed s x 1 AtLower ⊎ HasPassed s x 1 AtUpper → ⊥
    go (inl m) = none_some m.0 m.1
    go (inr m) = Q.lt-not-le two zero_ℚ (subst (λ y. two <ℚ y) (row_at_zero x h) (subst (λ b. b <ℚ x 1) (two_is m.0 m.1) m.2)) (Q.le_of_lt _ _ (less (pos 0) (pos 2) (omega (arith, ints))))

-- ---- the way of x and of its row

module _ (laws : BasisLaws) (d : Dictionary) (h : IsDictionary s first d) where
  gain_falls : gain_of d 0 <ℚ zero_ℚ
  gain_falls = subst (λ g. g <ℚ zero_ℚ) (sym (gain_is zero_ℚ None one_ℚ None (Some two) gain d h)) falls

  module _ (heading : Rational) (r : ℕ → Rational) (is_heading : IsHeading d 0 heading) (direction : IsDirection first d 0 heading r) where
    heading_is : heading ≡ one_ℚ
    heading_is = go is_heading
      where
        go : IsHeading d 0 heading → heading ≡ one_ℚ
        go (inl k) = k.1
        go (inr k) = absurd (Q.lt-not-le _ _ gain_falls (Q.le_of_lt _ _ k.0))

    x_moves : r 0 ≡ one_ℚ
    x_moves = direction.mover ∙ heading_is

    row_moves : r 1 ≡ one_ℚ
    row_moves = direction.basics 1 refl ∙ ap₂ (λ y z. y *ℚ z) heading_is (rate_is zero_ℚ None one_ℚ None (Some two) gain laws d h) ∙ Q.one-mul one_ℚ

rises_no_fall : (y : Rational) → y ≡ one_ℚ → ¬ (y <ℚ zero_ℚ)
rises_no_fall y e h = Q.lt-not-le _ _ (subst (λ z. z <ℚ zero_ℚ) e h) (Q.le_of_lt _ _ (less (pos 0) (pos 1) (omega (arith, ints))))

never_at_x : (x r : ℕ → Rational) (t : Rational) (place : Place) → r 0 ≡ one_ℚ → ¬ (Reaches s x r t 0 place)
never_at_x x r t Basic e h = h
never_at_x x r t AtLower e h = rises_no_fall (r 0) e h.0
never_at_x x r t AtUpper e h = none_some _ h.1
never_at_x x r t AtZero e h = h

-- the row is at its bound after the step 2 alone
step_is : (x r : ℕ → Rational) (t : Rational) (place : Place) → x 1 ≡ zero_ℚ → r 1 ≡ one_ℚ → Reaches s x r t 1 place → t ≡ two
step_is x r t Basic e f h = absurd h
step_is x r t AtLower e f h = absurd (none_some _ h.1)
step_is x r t AtUpper e f h = sym (Q.mul-one t) ∙ sym (Q.zero-add (t *ℚ one_ℚ)) ∙ sym (ap₂ (λ y z. y +ℚ t *ℚ z) e f) ∙ two_is (x 1 +ℚ t *ℚ r 1) h.1
step_is x r t AtZero e f h = absurd h

ahead : (r : ℕ → Rational) (v : ℕ) (b : Rational) → r 0 ≡ one_ℚ → v < 2 → LiesAhead s v (r v) b → (v ≡ 1) × (b ≡ two)
ahead r zero b e known (inl h) = absurd (none_some b h.1)
ahead r zero b e known (inr h) = absurd (rises_no_fall (r 0) e h.0)
ahead r (suc zero) b e known (inl h) = (refl, two_is b h.1)
ahead r (suc zero) b e known (inr h) = absurd (none_some b h.1)
ahead r (suc (suc v)) b e known h = absurd (omega arith)

-- ---- the step

in_order : AreBoundsInOrder s
in_order zero = tt
in_order (suc zero) = tt
in_order (suc (suc v)) = tt

abbrev moves : ℕ → Rational
moves v = cond (v == 0) one_ℚ (one_ℚ *ℚ rate_of (start_dictionary s) 0 v)

start_is_dictionary : IsDictionary s first (start_dictionary s)
start_is_dictionary = is_dictionary zero_ℚ None one_ℚ None (Some two) gain

start_is_point : IsBasicPoint s first (start_point s)
start_is_point = is_point zero_ℚ None one_ℚ None (Some two) gain

row_starts : start_point s 1 ≡ zero_ℚ
row_starts = row_at_zero (start_point s) start_is_point

row_goes : moves 1 ≡ one_ℚ
row_goes = Q.one-mul (one_ℚ +ℚ zero_ℚ) ∙ Q.add-zero one_ℚ

is_direction : IsDirection first (start_dictionary s) 0 one_ℚ moves
is_direction = record { mover = refl; others = λ v rests other. absurd (other (resting_is_x v rests)); basics = λ v basic. at_row v (basic_is_row v basic) }
  where
    at_row : (v : ℕ) → v ≡ 1 → moves v ≡ one_ℚ *ℚ rate_of (start_dictionary s) 0 v
    at_row v e = subst (λ w. moves w ≡ one_ℚ *ℚ rate_of (start_dictionary s) 0 w) (sym e) refl

start_falls : gain_of (start_dictionary s) 0 <ℚ zero_ℚ
start_falls = subst (λ g. g <ℚ zero_ℚ) (sym (gain_is zero_ℚ None one_ℚ None (Some two) gain (start_dictionary s) start_is_dictionary)) falls

x_improves : Improves s first (start_point s) (start_dictionary s) 0
x_improves = record { resting = x_rests; can_improve = inl (neg_below (gain_of (start_dictionary s) 0) start_falls, tt) }

row_reaches : Reaches s (start_point s) moves two 1 AtUpper
row_reaches = (subst (λ y. zero_ℚ <ℚ y) (sym row_goes) (less (pos 0) (pos 1) (omega (arith, ints))), ap Some (sym arrives))
  where
    arrives : start_point s 1 +ℚ two *ℚ moves 1 ≡ two
    arrives = ap₂ (λ y z. y +ℚ two *ℚ z) row_starts row_goes ∙ Q.zero-add (two *ℚ one_ℚ) ∙ Q.mul-one two

is_first : IsFirst s (start_point s) moves two 1
is_first = record { no_sooner = no_sooner; least = least }
  where
    no_sooner : (t : Rational) (w : ℕ) (place : Place) → w < 2 → Reaches s (start_point s) moves t w place → two ≤ℚ t
    no_sooner t zero place known h = absurd (never_at_x (start_point s) moves t place refl h)
    no_sooner t (suc zero) place known h = subst (λ y. two ≤ℚ y) (sym (step_is (start_point s) moves t place row_starts row_goes h)) (Q.le_refl two)
    no_sooner t (suc (suc w)) place known h = absurd (omega arith)

    least : (w : ℕ) (place : Place) → w < 1 → ¬ (Reaches s (start_point s) moves two w place)
    least zero place below h = never_at_x (start_point s) moves two place refl h
    least (suc w) place below h = omega arith

improve_step : ImproveStep s first (start_point s) (start_dictionary s) 0 1 AtUpper
improve_step = record {
  none_outside = λ v. none_outside (start_point s) v start_is_point;
  first_improving = record { holds = x_improves; none_before = λ k below h. absurd (omega arith) };
  heading = one_ℚ;
  is_heading = inl (start_falls, refl);
  direction = moves;
  is_direction = is_direction;
  step = two;
  known = omega arith;
  reaches = row_reaches;
  first = is_first;
}

goes : BlandStep s first (second AtUpper)
goes = record {
  in_order = in_order;
  dictionary = start_dictionary s;
  is_dictionary = start_is_dictionary;
  point = start_point s;
  is_point = start_is_point;
  enters = 0;
  leaves = 1;
  place = AtUpper;
  chosen = inr improve_step;
  exchange = refl;
}

pub makes_a_step : IsRun (system_of pivoted [] []) (second AtUpper) (first ∷ [])
makes_a_step = (goes, is_start zero_ℚ None one_ℚ None (Some two) gain)

-- ---- what the step is

some : ¬ (one_ℚ.numerator ≡ pos 0)
some e = cc

inside : zero_ℚ ≤ℚ inv_ℚ one_ℚ *ℚ two
unfolding ◌*ℚ◌ inv_ℚ over gcd gcd_within
inside = Q.at_most_true zero_ℚ (inv_ℚ one_ℚ *ℚ two) refl

gain_behind : gain *ℚ inv_ℚ one_ℚ <ℚ zero_ℚ
unfolding ◌*ℚ◌ inv_ℚ over gcd gcd_within
gain_behind = Q.less_true (gain *ℚ inv_ℚ one_ℚ) zero_ℚ refl

settled : (x : ℕ → Rational) → x 1 ≡ two → ¬ (CanRaise s x 1 (neg_ℚ (gain *ℚ inv_ℚ one_ℚ)))
settled x e (inl h) = irreflexive two (subst (λ y. y <ℚ two) e h.1)
settled x e (inr h) = Q.lt-not-le _ _ h.0 (Q.le_of_lt _ _ (neg_below (gain *ℚ inv_ℚ one_ℚ) gain_behind))

fit : DoFit one_ℚ two gain
unfolding ◌+ℚ◌ ◌*ℚ◌ inv_ℚ neg_ℚ over gcd gcd_within
fit = record {
  start_product = refl;
  start_sum = refl;
  way = refl;
  way_length = refl;
  mover = refl;
  move_product = refl;
  move_sum = refl;
  reciprocal = refl;
  quotient = refl;
  zero_quotient = refl;
  row_product = refl;
  row_sum = refl;
  gain_product = refl;
  gain_sum = refl;
}

turns : BasisLaws → Turns one_ℚ None (Some two) gain AtUpper two
turns laws = record {
  some = some;
  stops = λ e. cc;
  rests = two_is;
  goes = goes;
  inside = inside;
  settled = settled;
  mends = λ x d to b point m at. absurd (none_outside x 1 point m.first_outside.holds);
  improves = λ x d heading r v b dictionary point none is_heading direction known h. ahead r v b (x_moves laws d dictionary heading r is_heading direction) known h;
  fit = fit;
}

-- ---- its search

tests : DoTestsFit pivoted ((inv_ℚ one_ℚ *ℚ two) ∷ []) (weighed (gain *ℚ inv_ℚ one_ℚ) zero_ℚ)
unfolding ◌+ℚ◌ ◌*ℚ◌ inv_ℚ neg_ℚ over gcd gcd_within
tests = record { value = refl; point = refl; claim = λ v. refl; closed = closed }
  where
    closed : (goal : Option Rational) → IsOk (node_answer (node_setting pivoted [] []) goal (Bound (named pivoted [] (weighed (gain *ℚ inv_ℚ one_ℚ) zero_ℚ))))
    closed None = refl
    closed (Some v) = refl

none_real : (j : ℕ) → integer_at pivoted j ≡ false
none_real zero = refl
none_real (suc j) = refl

is_unhindered : BasisLaws → IsUnhindered pivoted 0
is_unhindered laws =
    unhindered pivoted (none_whole pivoted none_real) (no_fault false one_ℚ None (Some two) minus_one AtUpper two laws (turns laws) tests)
    (never_limited one_ℚ None (Some two) gain AtUpper two laws (turns laws))

-- x improves as it rises, and the row stops it
no_ray : (r : List Rational) → ¬ (IsImprovingRay pivoted r)
no_ray r h = Q.lt-not-le _ _ rises low
  where
    row_is : one_ℚ *ℚ number_at r 0 +ℚ zero_ℚ ≡ number_at r 0
    row_is = Q.add-zero (one_ℚ *ℚ number_at r 0) ∙ Q.one-mul (number_at r 0)

    low : number_at r 0 ≤ℚ zero_ℚ
    low = subst (λ v. v ≤ℚ zero_ℚ) row_is (let row = h.rows 0 in row.high)

    value_is : one_ℚ *ℚ (minus_one *ℚ number_at r 0 +ℚ zero_ℚ) ≡ neg_ℚ (number_at r 0)
    value_is =
        Q.one-mul (minus_one *ℚ number_at r 0 +ℚ zero_ℚ) ∙ Q.add-zero (minus_one *ℚ number_at r 0) ∙ ap (λ m. m *ℚ number_at r 0) (Q.neg_whole (pos 1))
        ∙ Q.neg_mul one_ℚ (number_at r 0) ∙ ap neg_ℚ (Q.one-mul (number_at r 0))

    rises : zero_ℚ <ℚ number_at r 0
    rises = subst (λ v. zero_ℚ <ℚ v) (Q.neg_neg (number_at r 0)) (neg_below (neg_ℚ (number_at r 0)) (subst (λ v. v <ℚ zero_ℚ) value_is h.improves))

pub are_unhindered : BasisLaws → AreUnhindered pivoted 0
are_unhindered laws Best none = is_unhindered laws
are_unhindered laws Any ray = absurd (no_ray ray.0 ray.1)
