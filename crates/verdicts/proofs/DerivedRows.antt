-- A derived row that passes holds at each feasible point.
use Rattle.std.proofs.Common.{◌≡◌, ◌∙◌, ◌++◌, zero, suc, ℕ, List, [], ◌∷◌, true, ◌&&◌, refl, Option, Some, None, IfSome, slice_get, length, IsTrue, option_and_then, ⊎_elim}
use Rattle.std.specs.Prelude.{pos, negsuc, ◌+ℤ◌}
use Rattle.std.proofs.lemmas.Bool.{and_parts}
use Rattle.rational.specs.Rational.{Rational, ◌≤ℚ◌, zero_ℚ, ◌*ℚ◌, whole}
use Rattle.milp.specs.Form.{Entry}
use Rattle.rational.proofs.Laws as Q
use Rattle.verdicts.proofs.Duality.{value-scaled}
use Rattle.rational.specs.Compare.{is_at_most, is_whole}
use Rattle.milp.specs.Points.{IsWhole}
use Rattle.milp.specs.Problem.{Column, Problem}
use Rattle.milp.specs.Form.{number_at, sum_at}
use Rattle.milp.specs.Points.{IsWithin, Relaxed, Feasible}
use Rattle.verdicts.specs.Certificate.{Split, Low, FormSplit, Proof, Plain, BySplit, Derived}
use Rattle.verdicts.specs.Proves.{terms, joined, shows, is_integer, is_whole_form, in_range, low_term, high_term, proof_passes, derived_passes}
use Rattle.rational.proofs.Laws.{at_most_true, whole_true}
use Rattle.verdicts.proofs.Numbers.{le_by, neg_le, minus_one-mul, IsWhole-add, IsWhole-mul, sides}
use Rattle.verdicts.proofs.Sums.{Meets, terms_meet, joined_meets, shows_sound}
use Rattle.verdicts.specs.Proves.{InsideBounds, MeetsDerived, AllDerived, TakesSide}

-- with no split on the way, the bounds are the columns' own
pub inside_own : (p : Problem) (x : List Rational) → Relaxed p x → InsideBounds p [] x
inside_own p x h = record { within = λ j. go j (slice_get p.columns j) (h.columns j) }
  where
    go : (j : ℕ) (o : Option Column) → IfSome o (λ c. IsWithin c.lower c.upper (number_at x j)) → IsWithin (option_and_then (λ c. c.lower) o) (option_and_then (λ c. c.upper) o) (number_at x j)
    go j None k = record { low = tt; high = tt }
    go j (Some c) k = k

pub integer_whole : (o : Option Column) (v : Rational) → IfSome o (λ c. IsTrue c.integer → IsWhole v) → is_integer o ≡ true → IsWhole v
integer_whole None v h e = cc
integer_whole (Some c) v h e = h e

pub whole_value : (p : Problem) (x : List Rational) (form : List Entry) → Feasible p x → is_whole_form p form ≡ true → IsWhole (sum_at x form)
whole_value p x [] h t = refl
whole_value p x (e ∷ es) h t =
    let both = and_parts (is_whole e.coefficient && is_integer (slice_get p.columns e.column)) (is_whole_form p es) t in
    let here = and_parts (is_whole e.coefficient) (is_integer (slice_get p.columns e.column)) both.0 in
    IsWhole-add (e.coefficient *ℚ number_at x e.column) (sum_at x es) (IsWhole-mul e.coefficient (number_at x e.column) (whole_true e.coefficient here.0) (integer_whole (slice_get p.columns e.column) (number_at x e.column) (h.integers e.column) here.1)) (whole_value p x es h both.1)

-- each side of a split, as an inequality
pub takes_low : (s : Split) (x : List Rational) → sum_at x s.form ≤ℚ whole s.at → TakesSide x (Low s)
takes_low s x h = le_by _ _ _ _ (Q.neg_whole s.at) (value-scaled (number_at x) (whole (negsuc 0)) s.form ∙ minus_one-mul (sum_at x s.form)) (neg_le _ _ h)

low_meets : (s : FormSplit) (x : List Rational) → zero_ℚ ≤ℚ s.low → sum_at x s.form ≤ℚ whole s.at → Meets x (low_term s)
low_meets s x w h = record { scaled = Q.mul-le-mul s.low _ _ w (takes_low (record { form = s.form; at = s.at }) x h) }

high_meets : (s : FormSplit) (x : List Rational) → zero_ℚ ≤ℚ s.high → whole (s.at +ℤ pos 1) ≤ℚ sum_at x s.form → Meets x (high_term s)
high_meets s x w h = record { scaled = Q.mul-le-mul s.high _ _ w h }

proof_sound : (p : Problem) (before : List Derived) (x : List Rational) (form : List Entry) (bound : Rational) (proof : Proof) → Feasible p x → AllDerived x before → proof_passes p before form bound proof ≡ true → bound ≤ℚ sum_at x form
proof_sound p before x form bound (Plain w) h d t = shows_sound _ x _ form bound h.relaxed.size (terms_meet p before [] [] w x h.relaxed d (inside_own p x h.relaxed) tt) t
proof_sound p before x form bound (BySplit s) h d t =
    let n = length p.columns in
    let low_terms = joined (Some (low_term s)) (terms p before [] [] s.low_weights) in
    let high_terms = joined (Some (high_term s)) (terms p before [] [] s.high_weights) in
    let all = and_parts (is_whole_form p s.form && (is_at_most zero_ℚ s.low && is_at_most zero_ℚ s.high)) (shows n low_terms form bound && shows n high_terms form bound) t in
    let first = and_parts (is_whole_form p s.form) (is_at_most zero_ℚ s.low && is_at_most zero_ℚ s.high) all.0 in
    let weights = and_parts (is_at_most zero_ℚ s.low) (is_at_most zero_ℚ s.high) first.1 in
    let shown = and_parts (shows n low_terms form bound) (shows n high_terms form bound) all.1 in
    ⊎_elim
    (λ k. shows_sound n x low_terms form bound h.relaxed.size (joined_meets x (Some (low_term s)) _ (low_meets s x (at_most_true _ _ weights.0) k) (terms_meet p before [] [] s.low_weights x h.relaxed d (inside_own p x h.relaxed) tt)) shown.0)
    (λ k. shows_sound n x high_terms form bound h.relaxed.size (joined_meets x (Some (high_term s)) _ (high_meets s x (at_most_true _ _ weights.1) k) (terms_meet p before [] [] s.high_weights x h.relaxed d (inside_own p x h.relaxed) tt)) shown.1)
    (sides (sum_at x s.form) s.at (whole_value p x s.form h first.0))

pub derived_sound : (p : Problem) (before : List Derived) (x : List Rational) (d : Derived) → Feasible p x → AllDerived x before → derived_passes p before d ≡ true → MeetsDerived x d
derived_sound p before x d h k t = proof_sound p before x d.form d.bound d.proof h k (and_parts (in_range (length p.columns) d.form) (proof_passes p before d.form d.bound d.proof) t).1

-- one more row
pub derived_more : (x : List Rational) (before : List Derived) (d : Derived) → AllDerived x before → MeetsDerived x d → AllDerived x (before ++ d ∷ [])
derived_more x [] d h m zero = m
derived_more x [] d h m (suc k) = tt
derived_more x (b ∷ before) d h m zero = h 0
derived_more x (b ∷ before) d h m (suc k) = derived_more x before d (λ j. h (suc j)) m k
