-- Bland's rule: of the variables that serve, the least one, in both phases.
use Rattle.std.specs.Prelude.{ℕ, negsuc, ◌+◌, ◌-◌, get_or, ◌<◌, ◌≡◌, ◌≢◌, ◌⊎◌, List, [], ◌∷◌, length, set, Option, Some, None}
use Rattle.rational.specs.Rational.{Rational, zero_ℚ, one_ℚ, whole, neg_ℚ, ◌≤ℚ◌, ◌<ℚ◌, ◌+ℚ◌, ◌*ℚ◌}
use Rattle.basis.specs.System.{System, size, lower_of, upper_of, AreBoundsInOrder, AllInside, CanRise, CanFall, extended}
use Rattle.basis.specs.Dictionary.{place_of, IsBasic, IsResting, Dictionary, IsDictionary, rate_of, gain_of, IsBasicPoint}
use Rattle.basis.specs.declared.Place.{Place}
use Rattle.basis.specs.declared.Place.TheVariants.{Basic, AtLower, AtUpper, AtZero}

-- the entering variable is basic and the leaving one rests; where both are one variable, it rests
abbrev pub exchanged : List Place → ℕ → ℕ → Place → List Place
exchanged b enters leaves place = set (set b enters Basic) leaves place

-- the least number of which P holds
pub record IsLeast (P : ℕ → Type 0) (n : ℕ) : Type 0 where
  pub holds : P n
  pub none_before : (k : ℕ) → k < n → ¬ (P k)

-- ---- the first phase: a basic variable is outside its bounds

-- v is past the bound of this place
abbrev pub HasPassed : System → (ℕ → Rational) → ℕ → Place → Type 0
HasPassed s x v Basic = ⊥
HasPassed s x v AtLower = (b : Rational) × (lower_of s v ≡ Some b) × (x v <ℚ b)
HasPassed s x v AtUpper = (b : Rational) × (upper_of s v ≡ Some b) × (b <ℚ x v)
HasPassed s x v AtZero = ⊥

-- v is basic, and past one of its bounds
pub record IsOutside (s : System) (b : List Place) (x : ℕ → Rational) (v : ℕ) : Type 0 where
  pub basic : IsBasic b v
  pub outside : HasPassed s x v AtLower ⊎ HasPassed s x v AtUpper

-- its bounds let q leave its value so that what changes at this rate rises
abbrev pub CanRaise : System → (ℕ → Rational) → ℕ → Rational → Type 0
CanRaise s x q rate = (zero_ℚ <ℚ rate × CanRise s x q) ⊎ (rate <ℚ zero_ℚ × CanFall s x q)

-- its bounds let q leave its value so that v goes back to the bound that it passed, at this rate
abbrev pub CanMend : System → (ℕ → Rational) → Place → ℕ → Rational → Type 0
CanMend s x Basic q rate = ⊥
CanMend s x AtLower q rate = CanRaise s x q rate
CanMend s x AtUpper q rate = CanRaise s x q (neg_ℚ rate)
CanMend s x AtZero q rate = ⊥

-- q rests, and mends v, which passed the bound of this place
pub record Mends (s : System) (b : List Place) (x : ℕ → Rational) (d : Dictionary) (v : ℕ) (place : Place) (q : ℕ) : Type 0 where
  pub resting : IsResting b q
  pub can_mend : CanMend s x place q (rate_of d q v)

-- the least variable outside its bounds leaves to the bound that it passed, and the least one that mends it enters
pub record MendStep (s : System) (b : List Place) (x : ℕ → Rational) (d : Dictionary) (enters leaves : ℕ) (place : Place) : Type 0 where
  pub first_outside : IsLeast (IsOutside s b x) leaves
  pub passed : HasPassed s x leaves place
  pub first_mending : IsLeast (Mends s b x d leaves place) enters

-- ---- the second phase: all variables are inside their bounds

-- q rests, and its bounds let it leave its value so that the objective falls
pub record Improves (s : System) (b : List Place) (x : ℕ → Rational) (d : Dictionary) (q : ℕ) : Type 0 where
  pub resting : IsResting b q
  pub can_improve : CanRaise s x q (neg_ℚ (gain_of d q))

-- 1 where the objective falls as q rises, and -1 where it falls as q falls
abbrev pub IsHeading : Dictionary → ℕ → Rational → Type 0
IsHeading d q heading = (gain_of d q <ℚ zero_ℚ × (heading ≡ one_ℚ)) ⊎ (zero_ℚ <ℚ gain_of d q × (heading ≡ whole (negsuc 0)))

-- how the variables move where q moves by `heading` and no other resting variable moves
pub record IsDirection (b : List Place) (d : Dictionary) (q : ℕ) (heading : Rational) (r : ℕ → Rational) : Type 0 where
  pub mover : r q ≡ heading
  pub others : (v : ℕ) → IsResting b v → v ≢ q → r v ≡ zero_ℚ
  pub basics : (v : ℕ) → IsBasic b v → r v ≡ heading *ℚ rate_of d q v

-- v, on its way along r, is at the bound of this place after the step t
abbrev pub Reaches : System → (ℕ → Rational) → (ℕ → Rational) → Rational → ℕ → Place → Type 0
Reaches s x r t v Basic = ⊥
Reaches s x r t v AtLower = (r v <ℚ zero_ℚ) × (lower_of s v ≡ Some (x v +ℚ t *ℚ r v))
Reaches s x r t v AtUpper = (zero_ℚ <ℚ r v) × (upper_of s v ≡ Some (x v +ℚ t *ℚ r v))
Reaches s x r t v AtZero = ⊥

-- after the step t variables reach a bound, none before, and v is the least of them
pub record IsFirst (s : System) (x r : ℕ → Rational) (t : Rational) (v : ℕ) : Type 0 where
  pub no_sooner : (u : Rational) → (w : ℕ) → (p : Place) → w < size s → Reaches s x r u w p → t ≤ℚ u
  pub least : (w : ℕ) → (p : Place) → w < v → ¬ (Reaches s x r t w p)

-- no variable ever reaches a bound
abbrev pub ReachesNone : System → (ℕ → Rational) → (ℕ → Rational) → Type 0
ReachesNone s x r = (t : Rational) → (v : ℕ) → (p : Place) → v < size s → ¬ (Reaches s x r t v p)

-- the least variable that improves moves until a first variable, itself included, reaches a bound; the least such variable rests there
pub record ImproveStep (s : System) (b : List Place) (x : ℕ → Rational) (d : Dictionary) (enters leaves : ℕ) (place : Place) : Type 0 where
  pub none_outside : (v : ℕ) → ¬ (IsOutside s b x v)
  pub first_improving : IsLeast (Improves s b x d) enters
  pub heading : Rational
  pub is_heading : IsHeading d enters heading
  pub direction : ℕ → Rational
  pub is_direction : IsDirection b d enters heading direction
  pub step : Rational
  pub known : leaves < size s
  pub reaches : Reaches s x direction step leaves place
  pub first : IsFirst s x direction step leaves

-- ---- runs

-- Bland's rule leads from the basis b to the basis c
pub record BlandStep (s : System) (b c : List Place) : Type 0 where
  pub in_order : AreBoundsInOrder s
  pub dictionary : Dictionary
  pub is_dictionary : IsDictionary s b dictionary
  pub point : ℕ → Rational
  pub is_point : IsBasicPoint s b point
  pub enters : ℕ
  pub leaves : ℕ
  pub place : Place
  pub chosen : MendStep s b point dictionary enters leaves place ⊎ ImproveStep s b point dictionary enters leaves place
  pub exchange : c ≡ exchanged b enters leaves place

-- a basis from which no step leads
abbrev pub IsFinal : System → List Place → Type 0
IsFinal s b = (c : List Place) → ¬ (BlandStep s b c)

-- a column rests at its lower bound, else its upper one, else 0
abbrev pub first_place : Option Rational → Option Rational → Place
first_place (Some l) upper = AtLower
first_place None (Some u) = AtUpper
first_place None None = AtZero

-- the basis at which a run starts: each column rests, and the variable of each form is basic
pub record IsStart (s : System) (b : List Place) : Type 0 where
  pub size : length b ≡ size s
  pub columns : (v : ℕ) → v < s.columns → place_of b v ≡ first_place (lower_of s v) (upper_of s v)
  pub forms : (k : ℕ) → k < length s.forms → IsBasic b (s.columns + k)

-- the dictionary at the start of a run: the forms themselves
abbrev pub start_dictionary : System → Dictionary
start_dictionary s = record { row = λ v. get_or s.forms (v - s.columns) []; objective = s.objective }

-- the number of a column at the start of a run
abbrev pub first_number : Option Rational → Option Rational → Rational
first_number (Some l) upper = l
first_number None (Some u) = u
first_number None None = zero_ℚ

-- the point at the start of a run
abbrev pub start_point : System → ℕ → Rational
start_point s = extended s (λ j. first_number (lower_of s j) (upper_of s j))

-- a run of Bland's rule that is now at the basis b, after the bases `before`, the latest of them first
abbrev pub IsRun : System → List Place → List (List Place) → Type 0
IsRun s b [] = IsStart s b
IsRun s b (c ∷ before) = BlandStep s c b × IsRun s c before

-- a basis of a run at whose point all variables are inside their bounds, and which no resting variable improves
pub record IsOptimalBasis (s : System) (b : List Place) (d : Dictionary) (x : ℕ → Rational) : Type 0 where
  pub before : List (List Place)
  pub is_run : IsRun s b before
  pub is_dictionary : IsDictionary s b d
  pub is_point : IsBasicPoint s b x
  pub inside : AllInside s x
  pub none_improves : (q : ℕ) → ¬ (Improves s b x d q)

-- the run's first n steps, after which there is one more: the limit of n steps is too small for it
pub record IsPivotLimit (s : System) (n : ℕ) (b : List Place) (before : List (List Place)) : Type 0 where
  pub is_run : IsRun s b before
  pub steps : length before ≡ n
  pub next : List Place
  pub one_more : BlandStep s b next
