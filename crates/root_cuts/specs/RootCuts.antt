-- The cuts of a search: those of some columns, at one optimal basis of the root.
use Rattle.std.specs.Prelude.{ℕ, ◌+◌, ◌<◌, ◌≤◌, ◌≡◌, List, [], ◌∷◌}
use Rattle.rational.specs.Rational.{Rational}
use Rattle.milp.specs.Problem.{Problem}
use Rattle.verdicts.specs.Certificate.{Derived}
use Rattle.basis.specs.System.{size}
use Rattle.basis.specs.Dictionary.{Dictionary, rate_of}
use Rattle.basis.specs.declared.Place.{Place}
use Rattle.gomory.specs.Cuts.{HasCut, IsGomoryCut, IsOptimalAtRoot}
use Rattle.root_cuts.specs.RootBasis.{root_system}

-- the cut of the column r at the basis b with the point x
pub record IsCutOf (p : Problem) (b : List Place) (x : ℕ → Rational) (d : Dictionary) (r : ℕ) (cut : Derived) : Type 0 where
  pub rates : ℕ → Rational
  pub are_rates : (v : ℕ) → v < size (root_system p) → rates v ≡ rate_of d v r
  pub has_cut : HasCut p b rates x r
  pub is_cut : IsGomoryCut p b rates x r cut

-- cuts of columns in ascending order, from `least` on
abbrev pub AreCutsFrom : Problem → List Place → (ℕ → Rational) → Dictionary → ℕ → List Derived → Type 0
AreCutsFrom p b x d least [] = Unit {0}
AreCutsFrom p b x d least (cut ∷ cuts) = (r : ℕ) × (least ≤ r) × IsCutOf p b x d r cut × AreCutsFrom p b x d (r + 1) cuts

-- cuts of some columns, at most one of each, at an optimal basis of the problem without wholeness
pub record AreCutsAtBasis (p : Problem) (cuts : List Derived) : Type 0 where
  pub basis : List Place
  pub point : ℕ → Rational
  pub dictionary : Dictionary
  pub is_optimal : IsOptimalAtRoot p basis point dictionary
  pub are_cuts : AreCutsFrom p basis point dictionary 0 cuts

-- no cuts, or such ones, as they stand
abbrev pub AreRootCuts : Problem → List Derived → Type 0
AreRootCuts p [] = Unit {0}
AreRootCuts p (cut ∷ cuts) = AreCutsAtBasis p (cut ∷ cuts)
