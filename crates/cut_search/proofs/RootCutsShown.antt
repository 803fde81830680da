-- The cuts of the root pass the checker's test of a derived row, whatever derived rows stand before them.
use Rattle.std.proofs.Common.{◌≡◌, ℕ, ◌+◌, true, List, [], ◌∷◌, refl}
use Rattle.std.specs.List.{list_all}
use Rattle.std.proofs.lemmas.Bool.{and_from}
use Rattle.rational.specs.Rational.{Rational}
use Rattle.milp.specs.Problem.{Problem}
use Rattle.verdicts.specs.Certificate.{Derived}
use Rattle.verdicts.specs.Proves.{derived_passes}
use Rattle.basis.specs.Dictionary.{Dictionary}
use Rattle.basis.specs.declared.Place.{Place}
use Rattle.gomory.specs.Cuts.{IsOptimalAtRoot, IsRootCut}
use Rattle.root_cuts.specs.RootCuts.{IsCutOf, AreCutsFrom, AreRootCuts}

module _ (p : Problem) (before : List Derived) (passes : (c : Derived) → IsRootCut p c → derived_passes p before c ≡ true) where
  root_cut : (b : List Place) (x : ℕ → Rational) (d : Dictionary) → IsOptimalAtRoot p b x d → (r : ℕ) (c : Derived) → IsCutOf p b x d r c → IsRootCut p c
  root_cut b x d best r c h = record {
    basis = b;
    point = x;
    dictionary = d;
    is_optimal = best;
    column = r;
    rates = h.rates;
    are_rates = h.are_rates;
    has_cut = h.has_cut;
    is_cut = h.is_cut;
  }

  all_pass : (b : List Place) (x : ℕ → Rational) (d : Dictionary) → IsOptimalAtRoot p b x d → (least : ℕ) (cuts : List Derived) → AreCutsFrom p b x d least cuts → list_all (derived_passes p before) cuts ≡ true
  all_pass b x d best least [] h = refl
  all_pass b x d best least (cut ∷ cuts) h = and_from _ _ (passes cut (root_cut b x d best h.0 cut h.2)) (all_pass b x d best (h.0 + 1) cuts h.3)

  pub root_cuts_pass : (cuts : List Derived) → AreRootCuts p cuts → list_all (derived_passes p before) cuts ≡ true
  root_cuts_pass [] h = refl
  root_cuts_pass (cut ∷ cuts) h = all_pass h.basis h.point h.dictionary h.is_optimal 0 (cut ∷ cuts) h.are_cuts
