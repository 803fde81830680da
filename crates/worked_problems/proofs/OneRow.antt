-- A column x from a bound on, and a row that is a multiple of it: the basis at the start.
use Rattle.std.proofs.Common.{◌≡◌, ◌∙◌, ℕ, zero, suc, ◌+◌, ◌<◌, ◌⊎◌, List, [], ◌∷◌, length, ◌==◌, cond, false, true, Option, Some, refl, sym, ap, subst, arith}
use Rattle.std.proofs.lemmas.Option.{same_Some}
use Rattle.std.proofs.lemmas.Bool.Decides.{nat_tests}
use mathlib.Core.Path.{ap₂}
use Rattle.std.specs.Prelude.{IfSome, slice_get}
use Rattle.rational.specs.Rational.{Rational, zero_ℚ, ◌+ℚ◌, ◌*ℚ◌}
use Rattle.rational.proofs.Laws as Q
use Rattle.milp.specs.Form.{Entry}
use Rattle.verdicts.specs.WeightedSums.{AllBelow}
use Rattle.basis.specs.System.{System, lower_of, upper_of, IsSystem}
use Rattle.basis.specs.Dictionary.{place_of, IsBasic, IsResting, Dictionary, IsDictionary, rate_of, gain_of, IsBasicPoint}
use Rattle.basis.specs.Bland.{first_place, start_dictionary, start_point, HasPassed, IsOutside, MendStep, IsFinal, BlandStep, IsStart, IsOptimalBasis}
use Rattle.basis.specs.Pivots.{Operation, Plus, Times}
use Rattle.basis.specs.Relaxation.{IsBlocked, IsUnboundedBasis}
use Rattle.basis.specs.Operations.{IsSumOperation}
use Rattle.basis.specs.declared.Place.{Place}
use Rattle.basis.specs.declared.Place.TheVariants.{Basic, AtLower, AtUpper}
use Rattle.basis.proofs.Laws.{start_is_dictionary, start_is_point, same_gains}
use Rattle.worked_problems.specs.Problems.{times_x}
use Rattle.worked_problems.proofs.Fitting.{none_some, fits_by, same_fits}

-- the laws of bases and runs that are used here
pub record BasisLaws : Type 0 where
  pub rates : (s : System) (b : List Place) (d e : Dictionary) → IsDictionary s b d → IsDictionary s b e → (v j : ℕ) → IsBasic b v → rate_of d j v ≡ rate_of e j v
  pub steps : (s : System) (b next other : List Place) → BlandStep s b next → BlandStep s b other → next ≡ other
  pub optimal : (s : System) (b : List Place) (d : Dictionary) (x : ℕ → Rational) → IsOptimalBasis s b d x → IsFinal s b
  pub blocked : (s : System) (b : List Place) (d : Dictionary) (x : ℕ → Rational) (r : ℕ) (place : Place) → IsBlocked s b d x r place → IsFinal s b
  pub unbounded : (s : System) (b : List Place) (d : Dictionary) (x : ℕ → Rational) (q : ℕ) (direction : ℕ → Rational) → IsUnboundedBasis s b d x q direction → IsFinal s b

-- x from l to u, a row a * x from lo to hi, and the objective g * x
abbrev pub one_row : Rational → Option Rational → Rational → Option Rational → Option Rational → Rational → System
one_row l u a lo hi g = record {
  columns = 1;
  forms = times_x a ∷ [];
  bounds = record { lower = Some l; upper = u } ∷ record { lower = lo; upper = hi } ∷ [];
  objective = times_x g;
}

abbrev pub first : List Place
first = AtLower ∷ Basic ∷ []

pub basic_is_row : (v : ℕ) → IsBasic first v → v ≡ 1
basic_is_row zero e = cc
basic_is_row (suc zero) e = refl
basic_is_row (suc (suc v)) e = cc

pub resting_is_x : (q : ℕ) → IsResting first q → q ≡ 0
resting_is_x zero h = refl
resting_is_x (suc zero) h = absurd (h.not_basic refl)
resting_is_x (suc (suc q)) h = absurd (let known = h.known in omega arith)

pub x_rests : IsResting first 0
x_rests = record { known = omega arith; not_basic = λ e. cc }

module _ (l : Rational) (u : Option Rational) (a : Rational) (lo hi : Option Rational) (g : Rational) where
  pub start_is_first : (b : List Place) → IsStart (one_row l u a lo hi g) b → b ≡ first
  start_is_first [] h = absurd (let e : 0 ≡ 2 = h.size in omega arith)
  start_is_first (p ∷ []) h = absurd (let e : 1 ≡ 2 = h.size in omega arith)
  start_is_first (p ∷ q ∷ []) h = ap₂ (λ c d. c ∷ d ∷ []) (h.columns 0 (omega arith)) (h.forms 0 (omega arith))
  start_is_first (p ∷ q ∷ r ∷ b) h = absurd (let e : suc (suc (suc (length b))) ≡ 2 = h.size in omega arith)

  pub is_start : IsStart (one_row l u a lo hi g) first
  is_start = record { size = refl; columns = columns; forms = forms }
    where
      columns : (v : ℕ) → v < 1 → place_of first v ≡ first_place (lower_of (one_row l u a lo hi g) v) (upper_of (one_row l u a lo hi g) v)
      columns zero h = refl
      columns (suc v) h = absurd (omega arith)

      forms : (k : ℕ) → k < 1 → IsBasic first (1 + k)
      forms zero h = refl
      forms (suc k) h = absurd (omega arith)

  is_system : IsSystem (one_row l u a lo hi g)
  is_system = record { forms = forms; objective = (omega arith, tt); bounds = refl }
    where
      forms : (k : ℕ) → IfSome (slice_get (times_x a ∷ []) k) (AllBelow 1)
      forms zero = (omega arith, tt)
      forms (suc k) = tt

  pub is_dictionary : IsDictionary (one_row l u a lo hi g) first (start_dictionary (one_row l u a lo hi g))
  is_dictionary = start_is_dictionary (one_row l u a lo hi g) first is_system is_start

  pub is_point : IsBasicPoint (one_row l u a lo hi g) first (start_point (one_row l u a lo hi g))
  is_point = start_is_point (one_row l u a lo hi g) first is_system is_start

  -- ---- the numbers there

  pub x_is : (x : ℕ → Rational) → IsBasicPoint (one_row l u a lo hi g) first x → x 0 ≡ l
  x_is x h = sym (same_Some _ _ (h.rests 0 (omega arith)))

  pub row_is : (x : ℕ → Rational) → IsBasicPoint (one_row l u a lo hi g) first x → x 1 ≡ a *ℚ l
  row_is x h = h.solves.values 0 ∙ Q.add-zero (a *ℚ x 0) ∙ ap (λ y. a *ℚ y) (x_is x h)

  pub gain_is : (d : Dictionary) → IsDictionary (one_row l u a lo hi g) first d → gain_of d 0 ≡ g
  gain_is d h = same_gains (one_row l u a lo hi g) first d (start_dictionary (one_row l u a lo hi g)) h is_dictionary 0 ∙ Q.add-zero g

  module _ (laws : BasisLaws) (d : Dictionary) (h : IsDictionary (one_row l u a lo hi g) first d) where
    pub rate_is : rate_of d 0 1 ≡ a
    rate_is = laws.rates (one_row l u a lo hi g) first d (start_dictionary (one_row l u a lo hi g)) h is_dictionary 1 0 refl ∙ Q.add-zero a

    pub rate_else : (j : ℕ) → rate_of d (suc j) 1 ≡ zero_ℚ
    rate_else j = laws.rates (one_row l u a lo hi g) first d (start_dictionary (one_row l u a lo hi g)) h is_dictionary 1 (suc j) refl ∙ ap (λ t. cond t a zero_ℚ +ℚ zero_ℚ) (other j) ∙ Q.add-zero zero_ℚ
      where
        other : (j : ℕ) → (0 == suc j) ≡ false
        other j = grind (arith, nat_tests)

  -- ---- operations of the first point

  pub start_fits : fits_by Times a l ≡ true → fits_by Plus zero_ℚ (a *ℚ l) ≡ true → (k : ℕ) (form : List Entry) → slice_get (times_x a ∷ []) k ≡ Some form
      → (n : Rational) (op : Operation) (c : Rational) → IsSumOperation form (start_point (one_row l u a lo hi g)) n op c → fits_by op n c ≡ true
  start_fits product_fits sum_fits (suc k) form is n op c h = absurd (none_some form is)
  start_fits product_fits sum_fits zero form is n op c h = go (subst (λ f. IsSumOperation f (start_point (one_row l u a lo hi g)) n op c) (sym (same_Some _ _ is)) h)
    where
      go : IsSumOperation (times_x a) (start_point (one_row l u a lo hi g)) n op c → fits_by op n c ≡ true
      go (IsSumOperation.product zero e is f o k) = same_fits op Times n a c l (f ∙ ap (λ (t : Entry). t.coefficient) (sym (same_Some _ _ is))) o (k ∙ ap (λ (t : Entry). start_point (one_row l u a lo hi g) t.column) (sym (same_Some _ _ is))) product_fits
      go (IsSumOperation.product (suc i) e is f o k) = absurd (none_some e is)
      go (IsSumOperation.sum zero e is f o k) =
          same_fits op Plus n zero_ℚ c (a *ℚ l) f o (k ∙ ap (λ (t : Entry). t.coefficient *ℚ start_point (one_row l u a lo hi g) t.column) (sym (same_Some _ _ is))) sum_fits
      go (IsSumOperation.sum (suc i) e is f o k) = absurd (none_some e is)

  -- ---- steps of the first phase

  pub outside_is_row : (x : ℕ → Rational) (v : ℕ) → IsOutside (one_row l u a lo hi g) first x v → (v ≡ 1) × (HasPassed (one_row l u a lo hi g) x 1 AtLower ⊎ HasPassed (one_row l u a lo hi g) x 1 AtUpper)
  outside_is_row x v h =
      let same = basic_is_row v h.basic in
      (same, subst (λ w. HasPassed (one_row l u a lo hi g) x w AtLower ⊎ HasPassed (one_row l u a lo hi g) x w AtUpper) same h.outside)

  pub mends_row : (x : ℕ → Rational) (d : Dictionary) (q v : ℕ) (place : Place) → MendStep (one_row l u a lo hi g) first x d q v place → (q ≡ 0) × (v ≡ 1) × MendStep (one_row l u a lo hi g) first x d 0 1 place
  mends_row x d q v place m =
      let enters = resting_is_x q m.first_mending.holds.resting in
      let leaves = basic_is_row v m.first_outside.holds.basic in
      (enters, leaves, subst (λ w. MendStep (one_row l u a lo hi g) first x d 0 w place) leaves (subst (λ w. MendStep (one_row l u a lo hi g) first x d w v place) enters m))
