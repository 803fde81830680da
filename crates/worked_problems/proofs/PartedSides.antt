-- min x, 1 <= 3 x <= 2, x >= 0 and whole: on both sides of its split the row is blocked at the start, and each operation of the work fits.
use Rattle.std.proofs.Common.{◌≡◌, ◌∙◌, ℕ, zero, suc, ◌⊎◌, List, [], ◌∷◌, true, Option, Some, None, refl, sym, ap, subst, arith, inl, inr}
use Rattle.std.proofs.lemmas.Option.{same_Some}
use Rattle.std.specs.Prelude.{pos, IsOk, slice_get}
use Rattle.std.proofs.lemmas.Int.{ints}
use Rattle.integer.specs.Gcd.{gcd, gcd_within}
use Rattle.rational.specs.Rational.{Rational, zero_ℚ, one_ℚ, whole, over, neg_ℚ, ◌+ℚ◌, ◌*ℚ◌, ◌<ℚ◌}
use Rattle.rational.proofs.Laws as Q
use Rattle.fraction.specs.declared.frac.NoFit.{NoFit}
use Rattle.verdicts.specs.Certificate.{Side, Low, High, Weights, Empty}
use Rattle.verdicts.specs.Migrated.{named}
use Rattle.basis.specs.System.{System, AreBoundsInOrder}
use Rattle.basis.specs.Dictionary.{Dictionary, rate_of}
use Rattle.basis.specs.Bland.{HasPassed, CanMend, IsOptimalBasis}
use Rattle.basis.specs.Pivots.{Operation, Plus, Times}
use Rattle.basis.specs.Node.{system_of}
use Rattle.basis.specs.Numbers.{at_of}
use Rattle.basis.specs.Operations.{IsRunOperation, IsNodeOperation}
use Rattle.basis.specs.Relaxation.{IsOptimalRelaxation, IsInfeasibleRelaxation, IsBlocked, IsUnboundedBasis, blocking_weights}
use Rattle.basis.specs.Weights.{weights_of, IsContradictory}
use Rattle.basis.specs.declared.Place.{Place}
use Rattle.basis.specs.declared.Place.TheVariants.{Basic, AtLower, AtUpper, AtZero}
use Rattle.basis.proofs.Laws.{neg_above}
use Rattle.cert_check.specs.Parts.{node_answer}
use Rattle.simplex.specs.Run.{IsLimited}
use Rattle.search_tree.specs.Work.{IsWorkFault, node_setting}
use Rattle.worked_problems.specs.Problems.{parted, at_zero}
use Rattle.worked_problems.proofs.Fitting.{none_some, fits_by, same_fits, never_unfit, no_err}
use Rattle.worked_problems.proofs.Wholes.{less, at_most, irreflexive}
use Rattle.worked_problems.proofs.OneRow.{BasisLaws, one_row, row_is, rate_is}
use Rattle.worked_problems.proofs.Blocked.{IsBlockedAt}
use Rattle.worked_problems.proofs.Blocked as run
use Rattle.worked_problems.proofs.Turned.{weighed, in_order_never_crossed}
use Rattle.worked_problems.proofs.PartedX.{two, three, gain}

-- the system of a node whose splits leave x these bounds
abbrev inside : Rational → Option Rational → System
inside l u = one_row l u three (Some one_ℚ) (Some two) gain

-- ---- a node at which the row is blocked

-- what is asked of it, and the weights that show that it has no point
record IsBlockedNode (sides : List Side) (l : Rational) (u : Option Rational) (w : Weights) : Type 0 where
  same : system_of parted [] sides ≡ inside l u
  outside : (x : ℕ → Rational) → x 1 ≡ three *ℚ l → HasPassed (inside l u) x 1 AtLower ⊎ HasPassed (inside l u) x 1 AtUpper
  none_mends : (x : ℕ → Rational) (place : Place) (rate : Rational) → x 0 ≡ l → x 1 ≡ three *ℚ l → rate ≡ three → HasPassed (inside l u) x 1 place → ¬ (CanMend (inside l u) x place 0 rate)
  in_order : AreBoundsInOrder (inside l u)
  first_product : fits_by Times three l ≡ true
  first_sum : fits_by Plus zero_ℚ (three *ℚ l) ≡ true
  splits : (k : ℕ) (side : Side) → slice_get sides k ≡ Some side → fits_by Plus (whole (at_of side)) one_ℚ ≡ true
  weights : (d : Dictionary) (x : ℕ → Rational) (place : Place) → x 1 ≡ three *ℚ l → rate_of d 0 1 ≡ three → HasPassed (inside l u) x 1 place → weights_of parted [] (blocking_weights d 1 place) ≡ w
  test : (goal : Option Rational) → IsOk (node_answer (node_setting parted [] sides) goal (Empty (named parted sides w)))

module _ (laws : BasisLaws) (sides : List Side) (l : Rational) (u : Option Rational) (w : Weights) (t : IsBlockedNode sides l u w) where
  never_limited : (limit : ℕ) (bases : List (List Place)) → ¬ (IsLimited (system_of parted [] sides) limit bases)
  never_limited limit bases h = run.never_limited l u three (Some one_ℚ) (Some two) gain laws t.outside t.none_mends limit bases (subst (λ s. IsLimited s limit bases) t.same h)

  never_unbounded : (b : List Place) (d : Dictionary) (x : ℕ → Rational) (q : ℕ) (r : ℕ → Rational) → ¬ (IsUnboundedBasis (system_of parted [] sides) b d x q r)
  never_unbounded b d x q r h = run.never_unbounded l u three (Some one_ℚ) (Some two) gain laws t.outside t.none_mends b d x q r (subst (λ s. IsUnboundedBasis s b d x q r) t.same h)

  never_optimal : (x : List Rational) (v : Weights) (b : List Place) (d : Dictionary) → ¬ (IsOptimalRelaxation parted [] sides x v b d)
  never_optimal x v b d h = run.never_optimal l u three (Some one_ℚ) (Some two) gain laws t.outside t.none_mends b d h.values (subst (λ s. IsOptimalBasis s b d h.values) t.same h.is_optimal)

  infeasible_weights : (v : Weights) → IsInfeasibleRelaxation parted [] sides v → v ≡ w
  infeasible_weights v (IsInfeasibleRelaxation.contradiction k h e) = absurd (in_order_never_crossed (inside l u) k t.in_order (subst (λ s. IsContradictory s k) t.same h))
  infeasible_weights v (IsInfeasibleRelaxation.blocked b d x r place h e) =
      let there : IsBlockedAt (inside l u) d x r place = run.blocked_there l u three (Some one_ℚ) (Some two) gain laws t.outside t.none_mends b d x r place (subst (λ s. IsBlocked s b d x r place) t.same h) in
      e ∙ ap (λ j. weights_of parted [] (blocking_weights d j place)) there.is_row
      ∙ t.weights d x place (row_is l u three (Some one_ℚ) (Some two) gain x there.point) (rate_is l u three (Some one_ℚ) (Some two) gain laws d there.dictionary) there.passed

  operations_fit : (n : Rational) (op : Operation) (c : Rational) → IsNodeOperation parted [] sides n op c → fits_by op n c ≡ true
  operations_fit n op c (IsNodeOperation.of_run h) =
      run.operations_fit l u three (Some one_ℚ) (Some two) gain laws t.outside t.none_mends t.first_product t.first_sum n op c (subst (λ s. IsRunOperation s n op c) t.same h)
  operations_fit n op c (IsNodeOperation.above_split k side is e o f) = same_fits op Plus n (whole (at_of side)) c one_ℚ e o f (t.splits k side is)
  operations_fit n op c (IsNodeOperation.of_denominators b d x q r i number h is e f) = absurd (never_unbounded b d x q r h)
  operations_fit n op c (IsNodeOperation.of_ray b d x q r v h k e o f) = absurd (never_unbounded b d x q r h)

  no_fault : (e : NoFit) → ¬ (IsWorkFault parted [] sides e)
  no_fault e (IsWorkFault.in_method h) = never_unfit e (operations_fit e.a _ e.b h.operation) h.not_fit
  no_fault e (IsWorkFault.in_value x v b d h is) = never_optimal x v b d h
  no_fault e (IsWorkFault.in_point x v b d h is) = never_optimal x v b d h
  no_fault e (IsWorkFault.in_bound x v b d goal h is) = never_optimal x v b d h
  no_fault e (IsWorkFault.in_empty v goal h is) =
      no_err (node_answer (node_setting parted [] sides) goal (Empty (named parted sides v))) e (subst (λ y. IsOk (node_answer (node_setting parted [] sides) goal (Empty (named parted sides y)))) (sym (infeasible_weights v h)) (t.test goal)) is
  no_fault e (IsWorkFault.in_ray x ray h is) = never_unbounded h.basis h.dictionary h.values h.mover h.direction h.is_unbounded

-- ---- numbers

one_is : (b : Rational) → Some one_ℚ ≡ Some b → b ≡ one_ℚ
one_is b e = sym (same_Some _ _ e)

two_is : (b : Rational) → Some two ≡ Some b → b ≡ two
two_is b e = sym (same_Some _ _ e)

not_below_zero : (a : Rational) → a ≡ three → ¬ (a <ℚ zero_ℚ)
not_below_zero a e h = Q.lt-not-le _ _ (subst (λ y. y <ℚ zero_ℚ) e h) (at_most (pos 0) (pos 3) (omega (arith, ints)))

minus_not_above : (a : Rational) → a ≡ three → ¬ (zero_ℚ <ℚ neg_ℚ a)
minus_not_above a e h = not_below_zero a e (subst (λ y. y <ℚ zero_ℚ) (Q.neg_neg a) (neg_above (neg_ℚ a) h))

fits_above : fits_by Plus zero_ℚ one_ℚ ≡ true
unfolding ◌+ℚ◌ over gcd gcd_within
fits_above = refl

only_split : (side other : Side) → at_of side ≡ pos 0 → (k : ℕ) → slice_get (side ∷ []) k ≡ Some other → fits_by Plus (whole (at_of other)) one_ℚ ≡ true
only_split side other e zero is = subst (λ n. fits_by Plus (whole n) one_ℚ ≡ true) (sym e ∙ ap at_of (same_Some _ _ is)) fits_above
only_split side other e (suc k) is = absurd (none_some other is)

-- ---- the low side: x is 0, and the row below 1

low_row : (x : ℕ → Rational) → x 1 ≡ three *ℚ zero_ℚ → x 1 ≡ zero_ℚ
low_row x e = e ∙ Q.mul-zero three

low_outside : (x : ℕ → Rational) → x 1 ≡ three *ℚ zero_ℚ → HasPassed (inside zero_ℚ (Some zero_ℚ)) x 1 AtLower ⊎ HasPassed (inside zero_ℚ (Some zero_ℚ)) x 1 AtUpper
low_outside x e = inl (one_ℚ, refl, subst (λ y. y <ℚ one_ℚ) (sym (low_row x e)) (less (pos 0) (pos 1) (omega (arith, ints))))

low_not_high : (x : ℕ → Rational) → x 1 ≡ three *ℚ zero_ℚ → ¬ (HasPassed (inside zero_ℚ (Some zero_ℚ)) x 1 AtUpper)
low_not_high x e h = Q.lt-not-le two zero_ℚ (subst (λ y. two <ℚ y) (low_row x e) (subst (λ b. b <ℚ x 1) (two_is h.0 h.1) h.2)) (at_most (pos 0) (pos 2) (omega (arith, ints)))

low_mends : (x : ℕ → Rational) (place : Place) (rate : Rational) → x 0 ≡ zero_ℚ → x 1 ≡ three *ℚ zero_ℚ → rate ≡ three → HasPassed (inside zero_ℚ (Some zero_ℚ)) x 1 place
    → ¬ (CanMend (inside zero_ℚ (Some zero_ℚ)) x place 0 rate)
low_mends x Basic rate at e f passed h = h
low_mends x AtLower rate at e f passed (inl h) = irreflexive zero_ℚ (subst (λ y. y <ℚ zero_ℚ) at h.1)
low_mends x AtLower rate at e f passed (inr h) = not_below_zero rate f h.0
low_mends x AtUpper rate at e f passed h = low_not_high x e passed
low_mends x AtZero rate at e f passed h = h

low_in_order : AreBoundsInOrder (inside zero_ℚ (Some zero_ℚ))
low_in_order zero = Q.le_refl zero_ℚ
low_in_order (suc zero) = at_most (pos 1) (pos 2) (omega (arith, ints))
low_in_order (suc (suc v)) = tt

low_weights : (d : Dictionary) (x : ℕ → Rational) (place : Place) → x 1 ≡ three *ℚ zero_ℚ → rate_of d 0 1 ≡ three → HasPassed (inside zero_ℚ (Some zero_ℚ)) x 1 place
    → weights_of parted [] (blocking_weights d 1 place) ≡ weighed one_ℚ (neg_ℚ three)
low_weights d x Basic e f h = absurd h
low_weights d x AtLower e f h = ap (λ y. weighed one_ℚ (neg_ℚ y)) f
low_weights d x AtUpper e f h = absurd (low_not_high x e h)
low_weights d x AtZero e f h = absurd h

low_test : (goal : Option Rational) → IsOk (node_answer (node_setting parted [] (Low at_zero ∷ [])) goal (Empty (named parted (Low at_zero ∷ []) (weighed one_ℚ (neg_ℚ three)))))
unfolding ◌+ℚ◌ ◌*ℚ◌ neg_ℚ over gcd gcd_within
low_test goal = refl

low_product : fits_by Times three zero_ℚ ≡ true
unfolding ◌*ℚ◌ over gcd gcd_within
low_product = refl

low_sum : fits_by Plus zero_ℚ (three *ℚ zero_ℚ) ≡ true
unfolding ◌+ℚ◌ ◌*ℚ◌ over gcd gcd_within
low_sum = refl

low_node : IsBlockedNode (Low at_zero ∷ []) zero_ℚ (Some zero_ℚ) (weighed one_ℚ (neg_ℚ three))
low_node = record {
  same = refl;
  outside = low_outside;
  none_mends = low_mends;
  in_order = low_in_order;
  first_product = low_product;
  first_sum = low_sum;
  splits = λ k side. only_split (Low at_zero) side refl k;
  weights = low_weights;
  test = low_test;
}

pub low_no_fault : BasisLaws → (e : NoFit) → ¬ (IsWorkFault parted [] (Low at_zero ∷ []) e)
low_no_fault laws = no_fault laws (Low at_zero ∷ []) zero_ℚ (Some zero_ℚ) (weighed one_ℚ (neg_ℚ three)) low_node

pub low_never_limited : BasisLaws → (limit : ℕ) (bases : List (List Place)) → ¬ (IsLimited (system_of parted [] (Low at_zero ∷ [])) limit bases)
low_never_limited laws = never_limited laws (Low at_zero ∷ []) zero_ℚ (Some zero_ℚ) (weighed one_ℚ (neg_ℚ three)) low_node

-- ---- the high side: x is 1, and the row above 2

high_row : (x : ℕ → Rational) → x 1 ≡ three *ℚ one_ℚ → x 1 ≡ three
high_row x e = e ∙ Q.mul-one three

high_outside : (x : ℕ → Rational) → x 1 ≡ three *ℚ one_ℚ → HasPassed (inside one_ℚ None) x 1 AtLower ⊎ HasPassed (inside one_ℚ None) x 1 AtUpper
high_outside x e = inr (two, refl, subst (λ y. two <ℚ y) (sym (high_row x e)) (less (pos 2) (pos 3) (omega (arith, ints))))

high_not_low : (x : ℕ → Rational) → x 1 ≡ three *ℚ one_ℚ → ¬ (HasPassed (inside one_ℚ None) x 1 AtLower)
high_not_low x e h = Q.lt-not-le three one_ℚ (subst (λ y. y <ℚ one_ℚ) (high_row x e) (subst (λ b. x 1 <ℚ b) (one_is h.0 h.1) h.2)) (at_most (pos 1) (pos 3) (omega (arith, ints)))

high_mends : (x : ℕ → Rational) (place : Place) (rate : Rational) → x 0 ≡ one_ℚ → x 1 ≡ three *ℚ one_ℚ → rate ≡ three → HasPassed (inside one_ℚ None) x 1 place → ¬ (CanMend (inside one_ℚ None) x place 0 rate)
high_mends x Basic rate at e f passed h = h
high_mends x AtLower rate at e f passed h = high_not_low x e passed
high_mends x AtUpper rate at e f passed (inl h) = minus_not_above rate f h.0
high_mends x AtUpper rate at e f passed (inr h) = irreflexive one_ℚ (subst (λ y. one_ℚ <ℚ y) at h.1)
high_mends x AtZero rate at e f passed h = h

high_in_order : AreBoundsInOrder (inside one_ℚ None)
high_in_order zero = tt
high_in_order (suc zero) = at_most (pos 1) (pos 2) (omega (arith, ints))
high_in_order (suc (suc v)) = tt

high_weights : (d : Dictionary) (x : ℕ → Rational) (place : Place) → x 1 ≡ three *ℚ one_ℚ → rate_of d 0 1 ≡ three → HasPassed (inside one_ℚ None) x 1 place
    → weights_of parted [] (blocking_weights d 1 place) ≡ weighed (neg_ℚ one_ℚ) (neg_ℚ (neg_ℚ three))
high_weights d x Basic e f h = absurd h
high_weights d x AtLower e f h = absurd (high_not_low x e h)
high_weights d x AtUpper e f h = ap (λ y. weighed (neg_ℚ one_ℚ) (neg_ℚ (neg_ℚ y))) f
high_weights d x AtZero e f h = absurd h

high_test : (goal : Option Rational) → IsOk (node_answer (node_setting parted [] (High at_zero ∷ [])) goal (Empty (named parted (High at_zero ∷ []) (weighed (neg_ℚ one_ℚ) (neg_ℚ (neg_ℚ three))))))
unfolding ◌+ℚ◌ ◌*ℚ◌ neg_ℚ over gcd gcd_within
high_test goal = refl

high_product : fits_by Times three one_ℚ ≡ true
unfolding ◌*ℚ◌ over gcd gcd_within
high_product = refl

high_sum : fits_by Plus zero_ℚ (three *ℚ one_ℚ) ≡ true
unfolding ◌+ℚ◌ ◌*ℚ◌ over gcd gcd_within
high_sum = refl

high_node : IsBlockedNode (High at_zero ∷ []) one_ℚ None (weighed (neg_ℚ one_ℚ) (neg_ℚ (neg_ℚ three)))
high_node = record {
  same = refl;
  outside = high_outside;
  none_mends = high_mends;
  in_order = high_in_order;
  first_product = high_product;
  first_sum = high_sum;
  splits = λ k side. only_split (High at_zero) side refl k;
  weights = high_weights;
  test = high_test;
}

pub high_no_fault : BasisLaws → (e : NoFit) → ¬ (IsWorkFault parted [] (High at_zero ∷ []) e)
high_no_fault laws = no_fault laws (High at_zero ∷ []) one_ℚ None (weighed (neg_ℚ one_ℚ) (neg_ℚ (neg_ℚ three))) high_node

pub high_never_limited : BasisLaws → (limit : ℕ) (bases : List (List Place)) → ¬ (IsLimited (system_of parted [] (High at_zero ∷ [])) limit bases)
high_never_limited laws = never_limited laws (High at_zero ∷ []) one_ℚ None (weighed (neg_ℚ one_ℚ) (neg_ℚ (neg_ℚ three))) high_node
