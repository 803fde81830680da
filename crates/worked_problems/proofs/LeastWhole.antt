-- min x, 2 <= x <= 5 and whole: Bland's run ends where it starts, and no operation of the work on it fails to fit.
use Rattle.std.proofs.Common.{◌≡◌, ◌∙◌, ℕ, zero, suc, ◌<◌, List, [], ◌∷◌, ◌++◌, length, Option, Some, None, refl, sym, ap, subst, arith, inl, inr}
use Rattle.std.specs.Prelude.{pos, IsOk}
use Rattle.std.proofs.lemmas.Int.{ints}
use Rattle.integer.specs.Gcd.{gcd, gcd_within}
use Rattle.rational.specs.Rational.{Rational, zero_ℚ, one_ℚ, whole, over, neg_ℚ, ◌+ℚ◌, ◌*ℚ◌, ◌<ℚ◌, ◌≤ℚ◌}
use Rattle.rational.proofs.Laws as Q
use Rattle.fraction.specs.declared.frac.NoFit.{NoFit}
use Rattle.instance.specs.Sums.{value_answer}
use Rattle.verdicts.specs.Certificate.{Weights, Bound}
use Rattle.verdicts.specs.Migrated.{named}
use Rattle.basis.specs.System.{System, lower_of, upper_of, IsSystem}
use Rattle.basis.specs.Dictionary.{place_of, IsBasic, Dictionary, IsDictionary, gain_of, IsBasicPoint}
use Rattle.basis.specs.Bland.{first_place, start_dictionary, Improves, BlandStep, IsStart, IsRun}
use Rattle.basis.specs.Pivots.{Operation}
use Rattle.basis.specs.Node.{system_of}
use Rattle.basis.specs.Weights.{IsContradictory, items_at, nonzero}
use Rattle.basis.specs.Relaxation.{IsOptimalRelaxation, IsInfeasibleRelaxation, IsUnboundedBasis}
use Rattle.basis.specs.Operations.{IsRunOperation, IsNodeOperation}
use Rattle.basis.specs.declared.Place.{Place}
use Rattle.basis.specs.declared.Place.TheVariants.{AtLower}
use Rattle.basis.proofs.Laws.{neg_above, start_is_dictionary, same_gains}
use Rattle.cert_check.specs.Parts.{point_answer, node_answer}
use Rattle.simplex.specs.Run.{IsLimited}
use Rattle.search_tree.specs.Work.{IsWorkFault, node_setting}
use Rattle.worked_problems.specs.Problems.{least_whole}
use Rattle.worked_problems.proofs.Fitting.{none_some, no_err}
use Rattle.worked_problems.proofs.Wholes.{less}

abbrev s : System
s = system_of least_whole [] []

-- ---- the basis at the start, from which no step leads

abbrev first : List Place
first = AtLower ∷ []

is_system : IsSystem s
is_system = record { forms = λ k. tt; objective = (omega arith, tt); bounds = refl }

is_start : IsStart s first
is_start = record { size = refl; columns = columns; forms = λ k h. absurd (omega arith) }
  where
    columns : (v : ℕ) → v < 1 → place_of first v ≡ first_place (lower_of s v) (upper_of s v)
    columns zero h = refl
    columns (suc v) h = absurd (omega arith)

start_is_first : (b : List Place) → IsStart s b → b ≡ first
start_is_first [] h = absurd (let e : 0 ≡ 1 = h.size in omega arith)
start_is_first (p ∷ []) h = ap (λ q. q ∷ []) (h.columns 0 (omega arith))
start_is_first (p ∷ q ∷ b) h = absurd (let e : suc (suc (length b)) ≡ 1 = h.size in omega arith)

none_basic : (v : ℕ) → ¬ (IsBasic (AtLower ∷ []) v)
none_basic zero e = cc
none_basic (suc v) e = cc

at_two : (x : ℕ → Rational) → IsBasicPoint s first x → x 0 ≡ whole (pos 2)
at_two x h = two (h.rests 0 (omega arith))
  where
    two : Some (whole (pos 2)) ≡ Some (x 0) → x 0 ≡ whole (pos 2)
    two e = cc

gain_one : (d : Dictionary) → IsDictionary s first d → gain_of d 0 ≡ one_ℚ
gain_one d h = same_gains s first d (start_dictionary s) h (start_is_dictionary s first is_system is_start) 0 ∙ Q.add-zero (one_ℚ *ℚ one_ℚ) ∙ Q.one-mul one_ℚ

one_above : zero_ℚ <ℚ one_ℚ
one_above = less (pos 0) (pos 1) (omega (arith, ints))

none_improves : (d : Dictionary) (x : ℕ → Rational) (q : ℕ) → IsDictionary s first d → IsBasicPoint s first x → ¬ (Improves s first x d q)
none_improves d x (suc q) h k m = let known = m.resting.known in absurd (omega arith)
none_improves d x zero h k m = elim m.can_improve [
  | inl rises ↦ Q.lt-not-le (gain_of d 0) zero_ℚ (subst (λ g. g <ℚ zero_ℚ) (Q.neg_neg (gain_of d 0)) (neg_above (neg_ℚ (gain_of d 0)) rises.0)) (subst (λ g. zero_ℚ ≤ℚ g) (sym (gain_one d h)) (Q.le_of_lt _ _ one_above))
  | inr falls ↦ Q.lt-not-le (whole (pos 2)) (x 0) falls.1 (subst (λ a. a ≤ℚ whole (pos 2)) (sym (at_two x k)) (Q.le_refl (whole (pos 2))))
]

final : (c : List Place) → ¬ (BlandStep s first c)
final c h = elim h.chosen [
  | inl m ↦ none_basic h.leaves m.first_outside.holds.basic
  | inr m ↦ none_improves h.dictionary h.point h.enters h.is_dictionary h.is_point m.first_improving.holds
]

one_run : (b : List Place) (before : List (List Place)) → IsRun s b before → b ≡ first
one_run b [] h = start_is_first b h
one_run b (c ∷ before) h = absurd (final b (subst (λ a. BlandStep s a b) (one_run c before h.1) h.0))

-- what holds of a basis of a run holds of this one
at_first : (P : List Place → Type 0) (b : List Place) (before : List (List Place)) → IsRun s b before → P b → P first
at_first P b before run h = subst P (one_run b before run) h

pub never_limited : (limit : ℕ) (bases : List (List Place)) → ¬ (IsLimited s limit bases)
never_limited limit bases h = final h.is_limit.next (at_first (λ b. BlandStep s b h.is_limit.next) h.last h.before h.is_limit.is_run h.is_limit.one_more)

never_unbounded : (b : List Place) (d : Dictionary) (x : ℕ → Rational) (q : ℕ) (r : ℕ → Rational) → ¬ (IsUnboundedBasis s b d x q r)
never_unbounded b d x q r u =
    none_improves d x q (at_first (λ c. IsDictionary s c d) b u.before u.is_run u.is_dictionary) (at_first (λ c. IsBasicPoint s c x) b u.before u.is_run u.is_point)
    (at_first (λ c. Improves s c x d q) b u.before u.is_run u.first_improving.holds)

-- ---- no operation is made before the end

no_run_operation : (a : Rational) (op : Operation) (c : Rational) → ¬ (IsRunOperation s a op c)
no_run_operation a op c (IsRunOperation.at_start b k form start is_form h) = none_some form is_form
no_run_operation a op c (IsRunOperation.of_mending b before d x q v place bound run is_dictionary is_point m at h) = none_basic v (at_first (λ e. IsBasic e v) b before run m.first_outside.holds.basic)
no_run_operation a op c (IsRunOperation.of_improving b before d x q heading r v bound run is_dictionary is_point none improves is_heading direction known ahead h) =
    none_improves d x q (at_first (λ e. IsDictionary s e d) b before run is_dictionary) (at_first (λ e. IsBasicPoint s e x) b before run is_point) (at_first (λ e. Improves s e x d q) b before run improves.holds)
no_run_operation a op c (IsRunOperation.of_move b next before d x q t r run is_dictionary is_point direction known there h) = final next (at_first (λ e. BlandStep s e next) b before run.1 run.0)
no_run_operation a op c (IsRunOperation.of_pivot b before d q r place run is_dictionary leaves enters stops some h) = none_basic r (at_first (λ e. IsBasic e r) b before run.1 leaves)

no_operation : (a : Rational) (op : Operation) (c : Rational) → ¬ (IsNodeOperation least_whole [] [] a op c)
no_operation a op c (IsNodeOperation.of_run h) = no_run_operation a op c h
no_operation a op c (IsNodeOperation.above_split k side is e o f) = none_some side is
no_operation a op c (IsNodeOperation.of_denominators b d x q r n number u is e f) = never_unbounded b d x q r u
no_operation a op c (IsNodeOperation.of_ray b d x q r v u k e o f) = never_unbounded b d x q r u

-- ---- the tests of what is found

-- this number as the weight on the column, unless it is 0
abbrev weighed : Rational → Weights
weighed g = record { rows = []; columns = items_at 0 (nonzero g) ++ []; derived = []; splits = [] }

module _ (x : List Rational) (w : Weights) (b : List Place) (d : Dictionary) (h : IsOptimalRelaxation least_whole [] [] x w b d) where
  point_is : x ≡ whole (pos 2) ∷ []
  point_is = h.point ∙ ap (λ a. a ∷ []) (at_two h.values (at_first (λ c. IsBasicPoint s c h.values) b h.is_optimal.before h.is_optimal.is_run h.is_optimal.is_point))

  weights_are : w ≡ record { rows = []; columns = record { index = 0; weight = one_ℚ } ∷ []; derived = []; splits = [] }
  weights_are = h.weights ∙ ap weighed (gain_one d (at_first (λ c. IsDictionary s c d) b h.is_optimal.before h.is_optimal.is_run h.is_optimal.is_dictionary))

value_fits : IsOk (value_answer least_whole (whole (pos 2) ∷ []))
unfolding ◌+ℚ◌ ◌*ℚ◌ over gcd gcd_within
value_fits = refl

point_fits : IsOk (point_answer least_whole (Some (whole (pos 2) ∷ [])))
point_fits = refl

bound_fits : (goal : Option Rational) → IsOk (node_answer (node_setting least_whole [] []) goal (Bound (named least_whole [] (record { rows = []; columns = record { index = 0; weight = one_ℚ } ∷ []; derived = []; splits = [] }))))
unfolding ◌+ℚ◌ ◌*ℚ◌ over gcd gcd_within
bound_fits None = refl
bound_fits (Some v) = refl

never_infeasible : (w : Weights) → ¬ (IsInfeasibleRelaxation least_whole [] [] w)
never_infeasible w (IsInfeasibleRelaxation.contradiction v h e) = go v h
  where
    go : (v : ℕ) → ¬ (IsContradictory s v)
    go zero k = Q.lt-not-le (whole (pos 5)) (whole (pos 2)) (crossed k.lower k.upper k.is_lower k.is_upper k.crossed) (Q.le_of_lt _ _ below)
      where
        crossed : (l u : Rational) → Some (whole (pos 2)) ≡ Some l → Some (whole (pos 5)) ≡ Some u → u <ℚ l → whole (pos 5) <ℚ whole (pos 2)
        crossed l u e f c = let low : l ≡ whole (pos 2) = cc in let high : u ≡ whole (pos 5) = cc in subst (λ a. whole (pos 5) <ℚ a) low (subst (λ a. a <ℚ l) high c)

        below : whole (pos 2) <ℚ whole (pos 5)
        below = less (pos 2) (pos 5) (omega (arith, ints))
    go (suc v) k = none_some k.lower k.is_lower
never_infeasible w (IsInfeasibleRelaxation.blocked b d x r place h e) = none_basic r (at_first (λ c. IsBasic c r) b h.before h.is_run h.first_outside.holds.basic)

pub no_fault : (e : NoFit) → ¬ (IsWorkFault least_whole [] [] e)
no_fault e (IsWorkFault.in_method h) = no_operation e.a _ e.b h.operation
no_fault e (IsWorkFault.in_value x w b d h is) = no_err (value_answer least_whole x) e (subst (λ y. IsOk (value_answer least_whole y)) (sym (point_is x w b d h)) value_fits) is
no_fault e (IsWorkFault.in_point x w b d h is) = no_err (point_answer least_whole (Some x)) e (subst (λ y. IsOk (point_answer least_whole (Some y))) (sym (point_is x w b d h)) point_fits) is
no_fault e (IsWorkFault.in_bound x w b d goal h is) =
    no_err (node_answer (node_setting least_whole [] []) goal (Bound (named least_whole [] w))) e (subst (λ u. IsOk (node_answer (node_setting least_whole [] []) goal (Bound (named least_whole [] u)))) (sym (weights_are x w b d h)) (bound_fits goal)) is
no_fault e (IsWorkFault.in_empty w goal h is) = never_infeasible w h
no_fault e (IsWorkFault.in_ray x ray h is) = never_unbounded h.basis h.dictionary h.values h.mover h.direction h.is_unbounded
