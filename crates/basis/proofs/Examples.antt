-- A worked step: one column between 0 and 3, of which the objective wants much, goes from its lower bound to its upper one, and its run ends there.
use Rattle.std.proofs.Common.{◌≡◌, ◌≢◌, ◌∙◌, ℕ, zero, suc, ◌<◌, List, [], ◌∷◌, refl, sym, ap, subst, arith, Some, IfSome, inl, inr}
use Rattle.std.specs.Prelude.{pos, negsuc, ◌*ℤ◌, ◌<ℤ◌}
use Rattle.std.proofs.lemmas.Int.{ints}
use Rattle.std.proofs.lemmas.Option.{same_Some}
use Rattle.rational.specs.Rational.{Rational, zero_ℚ, one_ℚ, whole, neg_ℚ, ◌+ℚ◌, ◌*ℚ◌, ◌<ℚ◌, ◌≤ℚ◌}
use Rattle.rational.proofs.Laws as Q
use Rattle.basis.specs.System.{System, lower_of, upper_of, IsSystem}
use Rattle.basis.specs.Dictionary.{place_of, IsBasic, IsResting, Dictionary, IsDictionary, gain_of, IsBasicPoint}
use Rattle.basis.specs.Bland.{IsStart, first_place, start_dictionary, start_point, Improves, Reaches, BlandStep, IsFinal, IsRun}
use Rattle.basis.specs.declared.Place.{Place}
use Rattle.basis.specs.declared.Place.TheVariants.{Basic, AtLower, AtUpper, AtZero}
use Rattle.basis.proofs.Order.{neg_below}
use Rattle.basis.proofs.Start.{start_is_dictionary, start_is_point}
use Rattle.basis.proofs.Unique.{same_gains}
use Rattle.basis.proofs.StepLemmas.{flip_keeps}
use Rattle.basis.proofs.OneRun.{one_end}

abbrev one_column : System
one_column = record {
  columns = 1;
  forms = [];
  bounds = record { lower = Some (whole (pos 0)); upper = Some (whole (pos 3)) } ∷ [];
  objective = record { column = 0; coefficient = whole (negsuc 0) } ∷ [];
}

abbrev first : List Place
first = AtLower ∷ []

minus_below : whole (negsuc 0) <ℚ zero_ℚ
minus_below = record { cross = parts }
  where
    parts : (negsuc 0 *ℤ pos 1) <ℤ (pos 0 *ℤ pos 1)
    parts = omega (arith, ints)

zero_below : zero_ℚ <ℚ whole (pos 3)
zero_below = record { cross = parts }
  where
    parts : (pos 0 *ℤ pos 1) <ℤ (pos 3 *ℤ pos 1)
    parts = omega (arith, ints)

one_above : zero_ℚ <ℚ one_ℚ
one_above = record { cross = parts }
  where
    parts : (pos 0 *ℤ pos 1) <ℤ (pos 1 *ℤ pos 1)
    parts = omega (arith, ints)

is_system : IsSystem one_column
is_system = record { forms = λ k. tt; objective = (omega arith, tt); bounds = refl }

is_start : IsStart one_column first
is_start = record { size = refl; columns = columns; forms = λ k h. absurd (omega arith) }
  where
    columns : (v : ℕ) → v < 1 → place_of first v ≡ first_place (lower_of one_column v) (upper_of one_column v)
    columns zero h = refl
    columns (suc v) h = absurd (omega arith)

none_basic : (v : ℕ) → ¬ (IsBasic (AtLower ∷ []) v)
none_basic zero e = cc
none_basic (suc v) e = cc

gain : whole (negsuc 0) +ℚ zero_ℚ ≡ whole (negsuc 0)
gain = Q.add-zero (whole (negsuc 0))

leads_on : BlandStep one_column first (AtUpper ∷ [])
leads_on = record {
  in_order = order;
  dictionary = start_dictionary one_column;
  is_dictionary = start_is_dictionary one_column first is_system is_start;
  point = start_point one_column;
  is_point = start_is_point one_column first is_system is_start;
  enters = 0;
  leaves = 0;
  place = AtUpper;
  chosen = inr (record {
    none_outside = λ v h. none_basic v h.basic;
    first_improving = record {
      holds = record {
        resting = record { known = omega arith; not_basic = λ e. none_basic 0 e };
        can_improve = inl (neg_below (whole (negsuc 0) +ℚ zero_ℚ) falls, zero_below);
      };
      none_before = λ k h. absurd (omega arith);
    };
    heading = one_ℚ;
    is_heading = inl (falls, refl);
    direction = λ v. one_ℚ;
    is_direction = record { mover = refl; others = λ v r n. absurd (n (only v r.known)); basics = λ v h. absurd (none_basic v h) };
    step = whole (pos 3);
    known = omega arith;
    reaches = (one_above, ap Some (sym there));
    first = record { no_sooner = λ u w p k h. sooner u w p k h; least = λ w p h. absurd (omega arith) };
  });
  exchange = refl;
}
  where
    falls : whole (negsuc 0) +ℚ zero_ℚ <ℚ zero_ℚ
    falls = let P : Rational → Type 0 = λ t. t <ℚ zero_ℚ in subst P (sym gain) minus_below

    there : zero_ℚ +ℚ whole (pos 3) *ℚ one_ℚ ≡ whole (pos 3)
    there = Q.zero-add _ ∙ Q.mul-one (whole (pos 3))

    only : (v : ℕ) → v < 1 → v ≡ 0
    only zero h = refl
    only (suc v) h = absurd (omega arith)

    order : (v : ℕ) → IfSome (lower_of one_column v) (λ l. IfSome (upper_of one_column v) (λ u. l ≤ℚ u))
    order zero = Q.le_of_lt _ _ zero_below
    order (suc v) = tt

    sooner : (u : Rational) (w : ℕ) (p : Place) → w < 1 → Reaches one_column (start_point one_column) (λ v. one_ℚ) u w p → whole (pos 3) ≤ℚ u
    sooner u w Basic k h = absurd h
    sooner u w AtLower k h = absurd (Q.lt-not-le one_ℚ zero_ℚ h.0 (Q.le_of_lt _ _ one_above))
    sooner u zero AtUpper k h = let P : Rational → Type 0 = λ t. whole (pos 3) ≤ℚ t in subst P (same_Some _ _ h.1 ∙ Q.zero-add _ ∙ Q.mul-one u) (Q.le_refl (whole (pos 3)))
    sooner u (suc w) AtUpper k h = absurd (omega arith)
    sooner u w AtZero k h = absurd h

runs_on : IsRun one_column (AtUpper ∷ []) (first ∷ [])
runs_on = (leads_on, is_start)

-- ---- the end of the run

none_basic_there : (v : ℕ) → ¬ (IsBasic (AtUpper ∷ []) v)
none_basic_there zero e = cc
none_basic_there (suc v) e = cc

dictionary_there : IsDictionary one_column (AtUpper ∷ []) (start_dictionary one_column)
dictionary_there = flip_keeps first 0 AtUpper resting stops one_column (start_dictionary one_column) (start_is_dictionary one_column first is_system is_start)
  where
    resting : IsResting first 0
    resting = record { known = omega arith; not_basic = λ e. none_basic 0 e }

    stops : AtUpper ≢ Basic
    stops e = cc

none_improves_there : (d : Dictionary) (x : ℕ → Rational) (q : ℕ) → IsDictionary one_column (AtUpper ∷ []) d → IsBasicPoint one_column (AtUpper ∷ []) x → ¬ (Improves one_column (AtUpper ∷ []) x d q)
none_improves_there d x (suc q) h k m = let known = m.resting.known in absurd (omega arith)
none_improves_there d x zero h k m = elim m.can_improve [
  | inl rises ↦ Q.lt-not-le (x 0) (whole (pos 3)) rises.1 (subst (λ t. whole (pos 3) ≤ℚ t) at_three (Q.le_refl (whole (pos 3))))
  | inr falls ↦ Q.lt-not-le (neg_ℚ (gain_of d 0)) zero_ℚ falls.0 (Q.le_of_lt _ _ (neg_below (gain_of d 0) (subst (λ t. t <ℚ zero_ℚ) gain_there minus_below)))
]
  where
    at_three : whole (pos 3) ≡ x 0
    at_three = some_number (k.rests 0 (omega arith))
      where
        some_number : Some (whole (pos 3)) ≡ Some (x 0) → whole (pos 3) ≡ x 0
        some_number e = cc

    gain_there : whole (negsuc 0) ≡ gain_of d 0
    gain_there = sym gain ∙ same_gains one_column (AtUpper ∷ []) (start_dictionary one_column) d dictionary_there h 0

ends_there : IsFinal one_column (AtUpper ∷ [])
ends_there c h = elim h.chosen [
  | inl m ↦ none_basic_there h.leaves m.first_outside.holds.basic
  | inr m ↦ none_improves_there h.dictionary h.point h.enters h.is_dictionary h.is_point m.first_improving.holds
]

-- so each run of this system that comes to an end is this one
one_run_alone : (b : List Place) (before : List (List Place)) → IsRun one_column b before → IsFinal one_column b → (b ≡ AtUpper ∷ []) × (before ≡ first ∷ [])
one_run_alone b before h final = one_end one_column b (AtUpper ∷ []) before (first ∷ []) h final runs_on ends_there
