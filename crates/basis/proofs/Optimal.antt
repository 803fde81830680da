-- The weights of an optimal basis show that no point of the node is better than its point.
use Rattle.std.proofs.Common.{[], ◌≡◌, ◌∙◌, ℕ, ◌<◌, List, length, refl, sym, ap, subst, true, inl, inr}
use Rattle.std.proofs.lemmas.Bool.{and_from}
use Rattle.rational.specs.Rational.{Rational, ◌*ℚ◌, ◌≤ℚ◌}
use Rattle.milp.specs.Form.{number_at, sum_at}
use Rattle.milp.specs.Problem.{Problem}
use Rattle.milp.specs.Points.{sign_of}
use Rattle.verdicts.specs.Certificate.{Side, Weights, Derived}
use Rattle.verdicts.specs.WeightedSums.{scaled, combined}
use Rattle.verdicts.specs.Proves.{shows, terms}
use Rattle.verdicts.proofs.Laws.{value-scaled}
use Rattle.rational.proofs.Laws as Q
use Rattle.basis.specs.System.{size}
use Rattle.basis.specs.Dictionary.{Dictionary, gain_of}
use Rattle.basis.specs.Bland.{IsOptimalBasis}
use Rattle.basis.specs.Node.{system_of, IsOverColumns}
use Rattle.basis.specs.Weights.{weights_of, optimal_weights, numbers_from}
use Rattle.basis.specs.Relaxation.{ShowsObjective}
use Rattle.basis.specs.declared.Place.{Place}
use Rattle.basis.proofs.Coefs.{not_resting}
use Rattle.basis.proofs.Places.{below, rests_or}
use Rattle.basis.proofs.Start.{same_below}
use Rattle.basis.proofs.Lists.{numbers-below}
use Rattle.basis.proofs.Bounds.{held_down}
use Rattle.basis.proofs.Forms.{same_forms}
use Rattle.basis.proofs.FormWeights.{UsesBound, weights_there, weights_value, weights_bound}
use Rattle.basis.proofs.NodeTerms.{all_terms, terms_below}
use Rattle.basis.proofs.NodeSystems.{is_system}

module _ (p : Problem) (ds : List Derived) (sides : List Side) (b : List Place) (d : Dictionary) (x : ℕ → Rational) (over : IsOverColumns p ds sides) (h : IsOptimalBasis (system_of p ds sides) b d x) where
  uses : (v : ℕ) → v < size (system_of p ds sides) → UsesBound (system_of p ds sides) v (gain_of d v) (x v)
  uses v k n = elim (rests_or b v) [
    | inl rests ↦ held_down (system_of p ds sides) x v (gain_of d v) (h.inside v k) (λ can. h.none_improves v (record { resting = rests; can_improve = can })) n
    | inr not ↦ absurd (n (not_resting b d.objective v h.is_dictionary.over_resting.objective not))
  ]

  pub optimal_shows : ShowsObjective p ds sides (numbers_from 0 (length p.columns) x) (weights_of p ds (optimal_weights d))
  optimal_shows =
      let under = below b (size (system_of p ds sides)) d.objective h.is_dictionary.size h.is_dictionary.over_resting.objective in
      record {
        sum_terms = all_terms p ds sides (optimal_weights d);
        are_terms = weights_there p ds sides (gain_of d) d.objective x under (λ v k. refl) uses;
        form = same_forms (system_of p ds sides) (combined (all_terms p ds sides (optimal_weights d))) (scaled (sign_of p.direction) p.objective) (is_system p ds sides over) (terms_below p ds sides (optimal_weights d) over) (is_system p ds sides over).objective
            (λ y k. weights_value p ds sides (gain_of d) d.objective x under (λ v l. refl) uses y k ∙ sym (h.is_dictionary.same_objective y k));
        bound = weights_bound p ds sides (gain_of d) d.objective x under (λ v k. refl) uses
            ∙ sym (h.is_dictionary.same_objective x h.is_point.solves) ∙ value-scaled x (sign_of p.direction) p.objective
            ∙ ap (λ t. sign_of p.direction *ℚ t) (same_below (length p.columns) x (number_at (numbers_from 0 (length p.columns) x)) p.objective (λ v k. sym (numbers-below (length p.columns) x v k)) over.objective);
      }

pub shows_leaf : (p : Problem) (ds : List Derived) (sides : List Side) (x : List Rational) (w : Weights) → ShowsObjective p ds sides x w
    → shows (length p.columns) (terms p ds sides [] w) (scaled (sign_of p.direction) p.objective) (sign_of p.direction *ℚ sum_at x p.objective) ≡ true
shows_leaf p ds sides x w h = rw (h.are_terms) (and_from _ _ h.form (Q.true_at_most _ _ (let P : Rational → Type 0 = λ t. sign_of p.direction *ℚ sum_at x p.objective ≤ℚ t in subst P (sym h.bound) (Q.le_refl _))))
