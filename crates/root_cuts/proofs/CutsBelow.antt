-- Cuts that are gathered column by column: those of the columns below a bound.
use Rattle.std.proofs.Common.{ℕ, ◌+◌, ◌≤◌, List, [], ◌∷◌, length, IfSome, sym, subst, arith}
use Rattle.std.specs.Prelude.{◌++◌, Option, None, Some}
use Rattle.std.specs.Option.{option_map_or}
use Rattle.std.proofs.lemmas.List.{append-nil}
use Rattle.rational.specs.Rational.{Rational}
use Rattle.milp.specs.Problem.{Problem}
use Rattle.verdicts.specs.Certificate.{Derived}
use Rattle.basis.specs.Dictionary.{Dictionary}
use Rattle.basis.specs.declared.Place.{Place}
use Rattle.root_cuts.specs.RootCuts.{IsCutOf, AreCutsFrom}

-- cuts of columns in ascending order, from `least` on and below `bound`
abbrev pub AreCutsBelow : Problem → List Place → (ℕ → Rational) → Dictionary → ℕ → ℕ → List Derived → Type 0
AreCutsBelow p b x d bound least [] = least ≤ bound
AreCutsBelow p b x d bound least (cut ∷ cuts) = (r : ℕ) × (least ≤ r) × IsCutOf p b x d r cut × AreCutsBelow p b x d bound (r + 1) cuts

module _ (p : Problem) (b : List Place) (x : ℕ → Rational) (d : Dictionary) where
  pub below_from : (bound least : ℕ) (cuts : List Derived) → AreCutsBelow p b x d bound least cuts → AreCutsFrom p b x d least cuts
  below_from bound least [] h = tt
  below_from bound least (cut ∷ cuts) h = (h.0, h.1, h.2, below_from bound (h.0 + 1) cuts h.3)

  -- the next column has none
  pub none_there : (bound least : ℕ) (cuts : List Derived) → AreCutsBelow p b x d bound least cuts → AreCutsBelow p b x d (bound + 1) least cuts
  none_there bound least [] h = omega (arith, h)
  none_there bound least (cut ∷ cuts) h = (h.0, h.1, h.2, none_there bound (h.0 + 1) cuts h.3)

  -- the next column has this one
  pub one_there : (bound least : ℕ) (cuts : List Derived) (cut : Derived) → AreCutsBelow p b x d bound least cuts → IsCutOf p b x d bound cut → AreCutsBelow p b x d (bound + 1) least (cuts ++ cut ∷ [])
  one_there bound least [] cut h is = (bound, h, is, (let e : bound + 1 ≤ bound + 1 = omega arith in e))
  one_there bound least (first ∷ cuts) cut h is = (h.0, h.1, h.2, one_there bound (h.0 + 1) cuts cut h.3 is)

  -- the next column has this one, or none
  pub next_there : (bound : ℕ) (cuts : List Derived) (cut : Option Derived) → AreCutsBelow p b x d bound 0 cuts → IfSome cut (IsCutOf p b x d bound) → AreCutsBelow p b x d (bound + 1) 0 (cuts ++ option_map_or (λ c. c ∷ []) cut [])
  next_there bound cuts None h is = subst (AreCutsBelow p b x d (bound + 1) 0) (sym (append-nil cuts)) (none_there bound 0 cuts h)
  next_there bound cuts (Some cut) h is = one_there bound 0 cuts cut h is

  -- there are no more than columns
  pub count_below : (bound least : ℕ) (cuts : List Derived) → AreCutsBelow p b x d bound least cuts → least + length cuts ≤ bound
  count_below bound least [] h = omega (arith, h)
  count_below bound least (cut ∷ cuts) h = let more = count_below bound (h.0 + 1) cuts h.3 in let from = h.1 in omega (arith, more, from)
