-- No steps of Bland's rule lead from a basis back to it.
use Rattle.std.proofs.Common.{ℕ, zero, suc, ◌<◌, ◌≢◌, List, [], ◌∷◌, ◌++◌, length, get_or, refl, sym, subst, arith, inl, inr}
use Rattle.std.specs.Prelude.{AllPairs}
use Rattle.rational.specs.Rational.{Rational}
use Rattle.rational.proofs.Laws as Q
use Rattle.basis.specs.System.{System, size, IsInside, AllInside}
use Rattle.basis.specs.Dictionary.{IsBasicPoint}
use Rattle.basis.specs.Bland.{HasPassed, BlandStep}
use Rattle.basis.specs.declared.Place.{Place}
use Rattle.basis.specs.declared.Place.TheVariants.{Basic, AtLower, AtUpper, AtZero}
use Rattle.basis.proofs.Laws.{basic_known, same_point}
use Rattle.bland_ends.specs.Steps.{AreSteps}
use Rattle.bland_ends.proofs.Chains.{Chain, no_loop, one_more}
use Rattle.bland_ends.proofs.Mending as mending
use Rattle.bland_ends.proofs.Mending.{IsMending}
use Rattle.bland_ends.proofs.Turning as turning
use Rattle.bland_ends.proofs.Turning.{IsTurning}
use Rattle.bland_ends.proofs.Improving.{IsImproving, all_turning, leads_inside}

-- ---- the second phase never leads back to the first

-- at each point of b all variables are inside their bounds
abbrev IsMended : System → List Place → Type 0
IsMended s b = (x : ℕ → Rational) → IsBasicPoint s b x → AllInside s x

not_passed : (s : System) (x : ℕ → Rational) (v : ℕ) (p : Place) → IsInside s x v → ¬ (HasPassed s x v p)
not_passed s x v Basic i h = h
not_passed s x v AtLower i h = Q.lt-not-le (x v) h.0 h.2 (rw h.1 at i.low)
not_passed s x v AtUpper i h = Q.lt-not-le h.0 (x v) h.2 (rw h.1 at i.high)
not_passed s x v AtZero i h = h

-- a step of the second phase, or one of the first from a basis with a variable outside
data Phase (s : System) (g h : List Place) : Type 0 where
  first : IsMending s g h → ¬ (IsMended s g) → Phase s g h
  second : IsImproving s g h → IsMended s h → Phase s g h

phase_of : (s : System) (g h : List Place) → BlandStep s g h → Phase s g h
phase_of s g h t = elim t.chosen [
  | inl m ↦ first (record {
    in_order = t.in_order;
    dictionary = t.dictionary;
    is_dictionary = t.is_dictionary;
    point = t.point;
    is_point = t.is_point;
    enters = t.enters;
    leaves = t.leaves;
    place = t.place;
    step = m;
    exchange = t.exchange;
  }) (λ mended. not_passed s t.point t.leaves t.place
      (mended t.point t.is_point t.leaves (let known = basic_known g t.leaves m.first_outside.holds.basic in let size_g = t.is_dictionary.size in omega arith)) m.passed)
  | inr m ↦
      let k : IsImproving s g h = record {
        in_order = t.in_order;
        dictionary = t.dictionary;
        is_dictionary = t.is_dictionary;
        point = t.point;
        is_point = t.is_point;
        enters = t.enters;
        leaves = t.leaves;
        place = t.place;
        step = m;
        exchange = t.exchange;
      } in
      second k (leads_inside s g h k)
]

mended_on : (s : System) (ms : List (List Place)) (e f : List Place) → Chain (BlandStep s) ms e f → IsMended s e → IsMended s f
mended_on s [] e f way h = subst (IsMended s) way h
mended_on s (m ∷ ms) e f way h = mended_on s ms m f way.1 (elim (phase_of s e m way.0) [
  | first step not ↦ absurd (not h)
  | second step next ↦ next
])

all_improving : (s : System) (ms : List (List Place)) (e f : List Place) → Chain (BlandStep s) ms e f → IsMended s e → Chain (IsImproving s) ms e f
all_improving s [] e f way h = way
all_improving s (m ∷ ms) e f way h = elim (phase_of s e m way.0) [
  | first step not ↦ absurd (not h)
  | second step next ↦ (step, all_improving s ms m f way.1 next)
]

all_mending : (s : System) (ms : List (List Place)) (e f : List Place) → Chain (BlandStep s) ms e f → ¬ (IsMended s f) → Chain (IsMending s) ms e f
all_mending s [] e f way h = way
all_mending s (m ∷ ms) e f way h = elim (phase_of s e m way.0) [
  | first step not ↦ (step, all_mending s ms m f way.1 h)
  | second step next ↦ absurd (h (mended_on s ms m f way.1 next))
]

-- ---- no loop

pub no_way_back : (s : System) (b m : List Place) (ms : List (List Place)) → BlandStep s b m → Chain (BlandStep s) ms m b → ⊥
no_way_back s b m ms t way = elim (phase_of s b m t) [
  | first step not ↦ no_loop (IsMending s) (size s) (mending.pivot_of s) b (mending.none_greatest s b) m ms step (all_mending s ms m b way not)
  | second step next ↦
      let x : ℕ → Rational = step.point in
      let round = all_turning s b x [] (m ∷ ms) b refl (step, all_improving s ms m b way next)
      (λ y k v known. same_point s b step.dictionary y step.point step.is_dictionary k step.is_point v known) in
      no_loop (IsTurning s x) (size s) (turning.pivot_of s x) b (turning.none_greatest s x b) m ms round.0 round.1
]

-- ---- lists of steps

-- the way from an earlier basis of a list of steps to its last one
record Way (s : System) (e f : List Place) : Type 0 where
  next : List Place
  step : BlandStep s e next
  rest : List (List Place)
  way : Chain (BlandStep s) rest next f

way_from : (s : System) (b : List Place) (before : List (List Place)) (j : ℕ) (d : List Place) → AreSteps s b before → j < length before → Way s (get_or before j d) b
way_from s b [] j d h k = absurd (omega arith)
way_from s b (c ∷ cs) zero d h k = record { next = b; step = h.0; rest = []; way = refl }
way_from s b (c ∷ cs) (suc j) d h k =
    let w : Way s (get_or cs j d) c = way_from s c cs j d h.1 (omega arith) in
    record { next = w.next; step = w.step; rest = w.rest ++ (b ∷ []); way = one_more (BlandStep s) w.rest w.next c b w.way h.0 }

pub never_twice : (s : System) (b : List Place) (before : List (List Place)) → AreSteps s b before → AllPairs (λ c d. c ≢ d) (b ∷ before)
never_twice s b before h i zero d low known = absurd (omega arith)
never_twice s b before h zero (suc j) d low known = λ same.
    let w : Way s (get_or before j d) b = way_from s b before j d h (omega arith) in
    let P : List Place → Type 0 = λ u. Way s u b in
    let v = subst P (sym same) w in
    no_way_back s b v.next v.rest v.step v.way
never_twice s b [] h (suc i) (suc j) d low known = absurd (omega arith)
never_twice s b (c ∷ cs) h (suc i) (suc j) d low known = never_twice s c cs h.1 i j d (omega arith) (omega arith)
