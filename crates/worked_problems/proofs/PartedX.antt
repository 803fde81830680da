-- min x, 1 <= 3 x <= 2, x >= 0 and whole: at the root the row goes to its lower bound, and each operation of the work fits.
use Rattle.std.proofs.Common.{◌≡◌, ◌∙◌, ℕ, zero, suc, ◌+◌, ◌<◌, List, [], ◌∷◌, ◌==◌, cond, true, Option, Some, None, refl, sym, subst, arith, inl, inr}
use Rattle.std.proofs.lemmas.Option.{same_Some}
use Rattle.std.specs.Prelude.{pos, IfSome, IsOk, slice_get}
use Rattle.std.proofs.lemmas.Int.{ints}
use Rattle.integer.specs.Gcd.{gcd, gcd_within}
use Rattle.rational.specs.Rational.{Rational, zero_ℚ, one_ℚ, whole, over, inv_ℚ, neg_ℚ, ◌+ℚ◌, ◌*ℚ◌, ◌≤ℚ◌, ◌<ℚ◌}
use Rattle.rational.proofs.Laws as Q
use Rattle.milp.specs.Form.{value_at}
use Rattle.verdicts.specs.Certificate.{Weights, Bound}
use Rattle.verdicts.specs.Migrated.{named}
use Rattle.fraction.specs.declared.frac.NoFit.{NoFit}
use Rattle.basis.specs.System.{System, AreBoundsInOrder, IsInside}
use Rattle.basis.specs.Dictionary.{Dictionary, IsDictionary, place_of, RestsAt, IsBasicPoint}
use Rattle.basis.specs.Bland.{start_dictionary, start_point, HasPassed, IsOutside, CanRaise, Mends, MendStep, BlandStep, IsOptimalBasis}
use Rattle.basis.specs.Node.{system_of}
use Rattle.basis.specs.Operations.{IsBoundAt}
use Rattle.basis.specs.Relaxation.{IsOptimalRelaxation}
use Rattle.basis.specs.declared.Place.{Place}
use Rattle.basis.specs.declared.Place.TheVariants.{Basic, AtLower, AtUpper, AtZero}
use Rattle.basis.proofs.Laws.{neg_above}
use Rattle.cert_check.specs.Parts.{node_answer}
use Rattle.simplex.specs.Run.{IsLimited}
use Rattle.search_tree.specs.Work.{IsWorkFault, node_setting}
use Rattle.worked_problems.specs.Problems.{parted}
use Rattle.worked_problems.proofs.Wholes.{less, at_most, irreflexive}
use Rattle.worked_problems.proofs.OneRow.{BasisLaws, first, x_rests, is_start, is_dictionary, is_point, row_is}
use Rattle.worked_problems.proofs.Turning.{turning, second, after, after_is_dictionary, none_improves, DoFit, Turns}
use Rattle.worked_problems.proofs.Turning as run
use Rattle.worked_problems.proofs.Turned.{weighed, DoTestsFit}
use Rattle.worked_problems.proofs.Turned as root

abbrev pub two : Rational
two = whole (pos 2)

abbrev pub three : Rational
three = whole (pos 3)

abbrev pub gain : Rational
gain = one_ℚ *ℚ one_ℚ

abbrev pub third : Rational
third = inv_ℚ three *ℚ one_ℚ

abbrev s : System
s = turning three (Some one_ℚ) (Some two) gain

one_is : (b : Rational) → Some one_ℚ ≡ Some b → b ≡ one_ℚ
one_is b e = sym (same_Some _ _ e)

two_is : (b : Rational) → Some two ≡ Some b → b ≡ two
two_is b e = sym (same_Some _ _ e)

zero_below_one : zero_ℚ <ℚ one_ℚ
zero_below_one = less (pos 0) (pos 1) (omega (arith, ints))

-- ---- the row at the start

row_at_zero : (x : ℕ → Rational) → IsBasicPoint s first x → x 1 ≡ zero_ℚ
row_at_zero x h = row_is zero_ℚ None three (Some one_ℚ) (Some two) gain x h ∙ Q.mul-zero three

too_low : (x : ℕ → Rational) → IsBasicPoint s first x → HasPassed s x 1 AtLower
too_low x h = (one_ℚ, refl, subst (λ y. y <ℚ one_ℚ) (sym (row_at_zero x h)) zero_below_one)

not_high : (x : ℕ → Rational) → IsBasicPoint s first x → ¬ (HasPassed s x 1 AtUpper)
not_high x h m = Q.lt-not-le two zero_ℚ (subst (λ y. two <ℚ y) (row_at_zero x h) (subst (λ b. b <ℚ x 1) (two_is m.0 m.1) m.2)) (Q.le_of_lt _ _ (less (pos 0) (pos 2) (omega (arith, ints))))

row_outside : (x : ℕ → Rational) → IsBasicPoint s first x → IsOutside s first x 1
row_outside x h = record { basic = refl; outside = inl (too_low x h) }

mended_bound : (x : ℕ → Rational) (to : Place) (b : Rational) → IsBasicPoint s first x → HasPassed s x 1 to → IsBoundAt s 1 to b → b ≡ one_ℚ
mended_bound x Basic b point passed at = absurd at
mended_bound x AtLower b point passed at = one_is b at
mended_bound x AtUpper b point passed at = absurd (not_high x point passed)
mended_bound x AtZero b point passed at = absurd at

-- ---- the step

start_is_dictionary : IsDictionary s first (start_dictionary s)
start_is_dictionary = is_dictionary zero_ℚ None three (Some one_ℚ) (Some two) gain

start_is_point : IsBasicPoint s first (start_point s)
start_is_point = is_point zero_ℚ None three (Some one_ℚ) (Some two) gain

row_is_first : (k : ℕ) → k < 1 → ¬ (IsOutside s first (start_point s) k)
row_is_first zero below h = (let basic = h.basic in cc)
row_is_first (suc k) below h = omega arith

x_mends : Mends s first (start_point s) (start_dictionary s) 1 AtLower 0
x_mends = record { resting = x_rests; can_mend = inl (subst (λ y. zero_ℚ <ℚ y) (sym (Q.add-zero three)) (less (pos 0) (pos 3) (omega (arith, ints))), tt) }

mend_step : MendStep s first (start_point s) (start_dictionary s) 0 1 AtLower
mend_step = record {
  first_outside = record { holds = row_outside (start_point s) start_is_point; none_before = row_is_first };
  passed = too_low (start_point s) start_is_point;
  first_mending = record { holds = x_mends; none_before = λ k below h. absurd (omega arith) };
}

in_order : AreBoundsInOrder s
in_order zero = tt
in_order (suc zero) = at_most (pos 1) (pos 2) (omega (arith, ints))
in_order (suc (suc v)) = tt

goes : BlandStep s first (second AtLower)
goes = record {
  in_order = in_order;
  dictionary = start_dictionary s;
  is_dictionary = start_is_dictionary;
  point = start_point s;
  is_point = start_is_point;
  enters = 0;
  leaves = 1;
  place = AtLower;
  chosen = inl mend_step;
  exchange = refl;
}

-- ---- what the step is

some : ¬ (three.numerator ≡ pos 0)
some e = cc

inside : zero_ℚ ≤ℚ third
unfolding ◌*ℚ◌ inv_ℚ over gcd gcd_within
inside = Q.at_most_true zero_ℚ third refl

gain_behind : zero_ℚ <ℚ gain *ℚ inv_ℚ three
unfolding ◌*ℚ◌ inv_ℚ over gcd gcd_within
gain_behind = Q.less_true zero_ℚ (gain *ℚ inv_ℚ three) refl

settled : (x : ℕ → Rational) → x 1 ≡ one_ℚ → ¬ (CanRaise s x 1 (neg_ℚ (gain *ℚ inv_ℚ three)))
settled x e (inl h) = Q.lt-not-le _ _ h.0 (Q.le_of_lt _ _ (neg_above_zero))
  where
    neg_above_zero : neg_ℚ (gain *ℚ inv_ℚ three) <ℚ zero_ℚ
    neg_above_zero = neg_above (gain *ℚ inv_ℚ three) gain_behind
settled x e (inr h) = irreflexive one_ℚ (subst (λ y. one_ℚ <ℚ y) e h.1)

fit : DoFit three one_ℚ gain
unfolding ◌+ℚ◌ ◌*ℚ◌ inv_ℚ neg_ℚ over gcd gcd_within
fit = record {
  start_product = refl;
  start_sum = refl;
  way = refl;
  way_length = refl;
  mover = refl;
  move_product = refl;
  move_sum = refl;
  reciprocal = refl;
  quotient = refl;
  zero_quotient = refl;
  row_product = refl;
  row_sum = refl;
  gain_product = refl;
  gain_sum = refl;
}

turns : Turns three (Some one_ℚ) (Some two) gain AtLower one_ℚ
turns = record {
  some = some;
  stops = λ e. cc;
  rests = one_is;
  goes = goes;
  inside = inside;
  settled = settled;
  mends = λ x d to b point m at. mended_bound x to b point m.passed at;
  improves = λ x d heading r v b dictionary point none is_heading direction known h. absurd (none 1 (row_outside x point));
  fit = fit;
}

-- ---- the work at the root

tests : DoTestsFit parted (third ∷ []) (weighed (gain *ℚ inv_ℚ three) zero_ℚ)
unfolding ◌+ℚ◌ ◌*ℚ◌ inv_ℚ neg_ℚ over gcd gcd_within
tests = record { value = refl; point = refl; claim = λ v. refl; closed = closed }
  where
    closed : (goal : Option Rational) → IsOk (node_answer (node_setting parted [] []) goal (Bound (named parted [] (weighed (gain *ℚ inv_ℚ three) zero_ℚ))))
    closed None = refl
    closed (Some v) = refl

pub no_fault : BasisLaws → (e : NoFit) → ¬ (IsWorkFault parted [] [] e)
no_fault laws = root.no_fault true three (Some one_ℚ) (Some two) one_ℚ AtLower one_ℚ laws turns tests

pub never_limited : BasisLaws → (limit : ℕ) (bases : List (List Place)) → ¬ (IsLimited (system_of parted [] []) limit bases)
never_limited laws = run.never_limited three (Some one_ℚ) (Some two) gain AtLower one_ℚ laws turns

-- ---- the optimal point of the relaxation

abbrev values : ℕ → Rational
values v = cond (v == 0) third one_ℚ

values_are_point : IsBasicPoint s (second AtLower) values
values_are_point = record { rests = rests; solves = record { values = row } }
  where
    rests : (v : ℕ) → v < 2 → RestsAt s (place_of (second AtLower) v) v (values v)
    rests zero known = tt
    rests (suc zero) known = refl
    rests (suc (suc v)) known = absurd (omega arith)

    row : (k : ℕ) → IfSome (slice_get s.forms k) (λ form. values (1 + k) ≡ value_at values form)
    row zero = sym (Q.add-zero (three *ℚ third) ∙ Q.inv_left three one_ℚ some)
    row (suc k) = tt

values_inside : (v : ℕ) → v < 2 → IsInside s values v
values_inside zero known = record { low = inside; high = tt }
values_inside (suc zero) known = record { low = Q.le_refl one_ℚ; high = at_most (pos 1) (pos 2) (omega (arith, ints)) }
values_inside (suc (suc v)) known = absurd (omega arith)

is_optimal : BasisLaws → IsOptimalBasis s (second AtLower) (after three gain) values
is_optimal laws = record {
  before = first ∷ [];
  is_run = (goes, is_start zero_ℚ None three (Some one_ℚ) (Some two) gain);
  is_dictionary = dictionary;
  is_point = values_are_point;
  inside = values_inside;
  none_improves = λ q. none_improves three (Some one_ℚ) (Some two) gain AtLower one_ℚ laws turns (after three gain) values q dictionary values_are_point;
}
  where
    dictionary : IsDictionary s (second AtLower) (after three gain)
    dictionary = after_is_dictionary AtLower (λ e. cc) three (Some one_ℚ) (Some two) gain some

abbrev pub optimal_weights : Weights
optimal_weights = weighed ((gain *ℚ inv_ℚ three) +ℚ zero_ℚ) (zero_ℚ +ℚ zero_ℚ)

pub is_relaxation : BasisLaws → IsOptimalRelaxation parted [] [] (third ∷ []) optimal_weights (second AtLower) (after three gain)
is_relaxation laws = record { values = values; is_optimal = is_optimal laws; point = refl; weights = refl }

-- a third is between 0 and 1
pub third_above : zero_ℚ <ℚ third
unfolding ◌*ℚ◌ inv_ℚ over gcd gcd_within
third_above = Q.less_true zero_ℚ third refl

pub third_below : third <ℚ one_ℚ
unfolding ◌*ℚ◌ inv_ℚ over gcd gcd_within
third_below = Q.less_true third one_ℚ refl
