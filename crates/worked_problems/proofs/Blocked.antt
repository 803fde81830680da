-- Where x can't mend its row, the run ends where it starts.
use Rattle.std.proofs.Common.{◌≡◌, ℕ, ◌⊎◌, List, [], ◌∷◌, true, Option, refl, subst, arith, inl, inr}
use Rattle.rational.specs.Rational.{Rational, zero_ℚ, ◌*ℚ◌}
use Rattle.rational.proofs.Laws as Q
use Rattle.basis.specs.System.{System, AllInside}
use Rattle.basis.specs.Dictionary.{IsBasic, Dictionary, IsDictionary, rate_of, IsBasicPoint}
use Rattle.basis.specs.Bland.{HasPassed, IsOutside, exchanged, CanMend, MendStep, BlandStep, IsFinal, IsRun, IsOptimalBasis}
use Rattle.basis.specs.Pivots.{Operation, Plus, Times}
use Rattle.basis.specs.Relaxation.{IsBlocked, IsUnboundedBasis}
use Rattle.basis.specs.Operations.{IsRunOperation}
use Rattle.basis.specs.declared.Place.{Place}
use Rattle.basis.specs.declared.Place.TheVariants.{AtLower, AtUpper}
use Rattle.simplex.specs.Run.{IsLimited}
use Rattle.worked_problems.proofs.Fitting.{fits_by}
use Rattle.worked_problems.proofs.OneRow.{BasisLaws, one_row, first, basic_is_row, start_is_first, x_is, row_is, rate_is, mends_row, start_fits}

-- the row is past the bound of this place, at the basis where the run starts
pub record IsBlockedAt (s : System) (d : Dictionary) (x : ℕ → Rational) (r : ℕ) (place : Place) : Type 0 where
  pub dictionary : IsDictionary s first d
  pub point : IsBasicPoint s first x
  pub is_row : r ≡ 1
  pub passed : HasPassed s x 1 place

module _ (l : Rational) (u : Option Rational) (a : Rational) (lo hi : Option Rational) (g : Rational) (laws : BasisLaws)
    (outside : (x : ℕ → Rational) → x 1 ≡ a *ℚ l → HasPassed (one_row l u a lo hi g) x 1 AtLower ⊎ HasPassed (one_row l u a lo hi g) x 1 AtUpper)
    (none_mends : (x : ℕ → Rational) (place : Place) (rate : Rational) → x 0 ≡ l → x 1 ≡ a *ℚ l → rate ≡ a → HasPassed (one_row l u a lo hi g) x 1 place → ¬ (CanMend (one_row l u a lo hi g) x place 0 rate)) where
  is_outside : (x : ℕ → Rational) → IsBasicPoint (one_row l u a lo hi g) first x → IsOutside (one_row l u a lo hi g) first x 1
  is_outside x h = record { basic = refl; outside = outside x (row_is l u a lo hi g x h) }

  never_mends : (x : ℕ → Rational) (d : Dictionary) (q v : ℕ) (place : Place) → IsDictionary (one_row l u a lo hi g) first d → IsBasicPoint (one_row l u a lo hi g) first x
      → ¬ (MendStep (one_row l u a lo hi g) first x d q v place)
  never_mends x d q v place h k m =
      let row = (mends_row l u a lo hi g x d q v place m).2 in
      none_mends x place (rate_of d 0 1) (x_is l u a lo hi g x k) (row_is l u a lo hi g x k) (rate_is l u a lo hi g laws d h) row.passed row.first_mending.holds.can_mend

  pub first_final : IsFinal (one_row l u a lo hi g) first
  first_final c h = elim h.chosen [
    | inl m ↦ never_mends h.point h.dictionary h.enters h.leaves h.place h.is_dictionary h.is_point m
    | inr m ↦ m.none_outside 1 (is_outside h.point h.is_point)
  ]

  one_run : (b : List Place) (before : List (List Place)) → IsRun (one_row l u a lo hi g) b before → b ≡ first
  one_run b [] h = start_is_first l u a lo hi g b h
  one_run b (c ∷ before) h = absurd (first_final b (subst (λ f. BlandStep (one_row l u a lo hi g) f b) (one_run c before h.1) h.0))

  at_first : (P : List Place → Type 0) (b : List Place) (before : List (List Place)) → IsRun (one_row l u a lo hi g) b before → P b → P first
  at_first P b before run h = subst P (one_run b before run) h

  pub never_limited : (limit : ℕ) (bases : List (List Place)) → ¬ (IsLimited (one_row l u a lo hi g) limit bases)
  never_limited limit bases h = first_final h.is_limit.next (at_first (λ b. BlandStep (one_row l u a lo hi g) b h.is_limit.next) h.last h.before h.is_limit.is_run h.is_limit.one_more)

  never_inside : (b : List Place) (before : List (List Place)) (x : ℕ → Rational) → IsRun (one_row l u a lo hi g) b before → IsBasicPoint (one_row l u a lo hi g) b x → ¬ (AllInside (one_row l u a lo hi g) x)
  never_inside b before x run point inside = elim (outside x (row_is l u a lo hi g x (at_first (λ c. IsBasicPoint (one_row l u a lo hi g) c x) b before run point))) [
    | inl k ↦ Q.lt-not-le (x 1) k.0 k.2 (rw (k.1) at ((inside 1 (omega arith)).low))
    | inr k ↦ Q.lt-not-le k.0 (x 1) k.2 (rw (k.1) at ((inside 1 (omega arith)).high))
  ]

  pub never_optimal : (b : List Place) (d : Dictionary) (x : ℕ → Rational) → ¬ (IsOptimalBasis (one_row l u a lo hi g) b d x)
  never_optimal b d x h = never_inside b h.before x h.is_run h.is_point h.inside

  pub never_unbounded : (b : List Place) (d : Dictionary) (x : ℕ → Rational) (q : ℕ) (r : ℕ → Rational) → ¬ (IsUnboundedBasis (one_row l u a lo hi g) b d x q r)
  never_unbounded b d x q r h = never_inside b h.before x h.is_run h.is_point h.inside

  pub blocked_there : (b : List Place) (d : Dictionary) (x : ℕ → Rational) (r : ℕ) (place : Place) → IsBlocked (one_row l u a lo hi g) b d x r place → IsBlockedAt (one_row l u a lo hi g) d x r place
  blocked_there b d x r place h = record {
    dictionary = at_first (λ c. IsDictionary (one_row l u a lo hi g) c d) b h.before h.is_run h.is_dictionary;
    point = at_first (λ c. IsBasicPoint (one_row l u a lo hi g) c x) b h.before h.is_run h.is_point;
    is_row = row;
    passed = subst (λ v. HasPassed (one_row l u a lo hi g) x v place) row h.passed;
  }
    where
      row : r ≡ 1
      row = basic_is_row r (at_first (λ c. IsBasic c r) b h.before h.is_run h.first_outside.holds.basic)

  pub operations_fit : fits_by Times a l ≡ true → fits_by Plus zero_ℚ (a *ℚ l) ≡ true → (n : Rational) (op : Operation) (c : Rational) → IsRunOperation (one_row l u a lo hi g) n op c → fits_by op n c ≡ true
  operations_fit product_fits sum_fits n op c (IsRunOperation.at_start b k form start is_form h) = start_fits l u a lo hi g product_fits sum_fits k form is_form n op c h
  operations_fit product_fits sum_fits n op c (IsRunOperation.of_mending b before d x q v place bound run is_dictionary is_point m at h) =
      absurd (never_mends x d q v place (at_first (λ e. IsDictionary (one_row l u a lo hi g) e d) b before run is_dictionary) (at_first (λ e. IsBasicPoint (one_row l u a lo hi g) e x) b before run is_point)
      (at_first (λ e. MendStep (one_row l u a lo hi g) e x d q v place) b before run m))
  operations_fit product_fits sum_fits n op c (IsRunOperation.of_improving b before d x q heading r v bound run is_dictionary is_point none improves is_heading direction known ahead h) =
      absurd (at_first (λ e. ((w : ℕ) → ¬ (IsOutside (one_row l u a lo hi g) e x w))) b before run none 1 (is_outside x (at_first (λ e. IsBasicPoint (one_row l u a lo hi g) e x) b before run is_point)))
  operations_fit product_fits sum_fits n op c (IsRunOperation.of_move b next before d x q t r run is_dictionary is_point direction known there h) =
      absurd (first_final next (at_first (λ e. BlandStep (one_row l u a lo hi g) e next) b before run.1 run.0))
  operations_fit product_fits sum_fits n op c (IsRunOperation.of_pivot b before d q r place run is_dictionary leaves enters stops some h) =
      absurd (first_final _ (at_first (λ e. BlandStep (one_row l u a lo hi g) e (exchanged b q r place)) b before run.1 run.0))
