-- What the ends of a run tell of a node.
use Rattle.std.proofs.Common.{◌≡◌, ◌∙◌, ℕ, ◌≤◌, List, length, sym, ap, subst, arith}
use Rattle.std.specs.Prelude.{Bool, Result, Ok, Err, IfErr, IsErrAnd}
use Rattle.rational.specs.Rational.{Rational}
use Rattle.milp.specs.Form.{number_at}
use Rattle.milp.specs.Problem.{Column, Problem}
use Rattle.verdicts.specs.Certificate.{Side, Weights, Derived}
use Rattle.basis.specs.System.{System, size}
use Rattle.basis.specs.Node.{system_of}
use Rattle.basis.specs.Weights.{weights_of, contradiction_weights, numbers_from, IsContradictory}
use Rattle.basis.specs.Operations.{IsNodeOperation}
use Rattle.basis.specs.Relaxation.{IsBlocked, IsOptimalRelaxation, IsInfeasibleRelaxation, IsUnboundedRelaxation}
use Rattle.basis.specs.declared.Place.{Place}
use Rattle.basis.specs.declared.Place.TheVariants.{Basic, AtLower, AtUpper, AtZero}
use Rattle.basis.proofs.Laws.{node_size}
use Rattle.fraction.specs.declared.frac.NoFit.{NoFit}
use Rattle.dictionary.specs.Table.{Table, dictionary_of, operation_of}
use Rattle.simplex.specs.Ratio.{along}
use Rattle.simplex.specs.Narrowed.{AreSplitFaults}
use Rattle.dictionary.specs.Faults.{IfNoFit}
use Rattle.dictionary.proofs.Laws.{handed_on}
use Rattle.simplex.specs.Rays.{IsRayFault, whole_ray}
use Rattle.simplex.specs.Sources.{weights_from}
use Rattle.simplex.specs.Run.{IsEnded, IsFaultOf}
use Rattle.simplex.specs.Answer.{IsNodeFault, IsNodeStop, source_of, stop_of}
use Rattle.dictionary.specs.declared.fault.Fault.{Fault}
use Rattle.dictionary.specs.declared.fault.Fault.TheVariants as F
use Rattle.simplex.specs.declared.runs.End.TheVariants.{Optimal, Blocked, Endless}
use Rattle.simplex.specs.declared.runs.RunFault.{RunFault}
use Rattle.simplex.specs.declared.runs.RunFault.TheVariants as R
use Rattle.simplex.specs.declared.weights.Source.{Source}
use Rattle.simplex.specs.declared.weights.Source.TheVariants as W

-- ---- faults on their way

pub fault_kept : {X : Type 0} (r : Result X Fault) (e : Fault) (P Q : NoFit → Type 0) → IsErrAnd r (λ d. d ≡ e) → ((f : NoFit) → P f → Q f) → IfNoFit P e → IfErr r (IfNoFit Q)
fault_kept (Ok x) e P Q h k p = tt
fault_kept (Err d) e P Q h k p = subst (IfNoFit Q) (sym h) (handed_on P Q e k p)

pub stop_kept : {X : Type 0} (r : Result X RunFault) (e : RunFault) (P : RunFault → Type 0) → IsErrAnd r (λ d. d ≡ e) → P e → IfErr r P
stop_kept (Ok x) e P h p = tt
stop_kept (Err d) e P h p = subst P (sym h) p

-- ---- sizes

module _ (p : Problem) (ds : List Derived) (sides : List Side) where
  abbrev s : System
  s = system_of p ds sides

  columns_inside : (n : ℕ) → n ≡ size s → length p.columns ≤ n
  columns_inside n e = let k = node_size p ds sides in omega (arith, e, k)

  -- ---- ends

  pub made_optimal : (t : Table) (values x : List Rational) (w : Weights) → IsEnded s t values Optimal → x ≡ numbers_from 0 (length p.columns) (number_at values) → w ≡ weights_of p ds (weights_from t W.Objective)
      → IsOptimalRelaxation p ds sides x w t.places (dictionary_of t)
  made_optimal t values x w h e f = record { values = number_at values; is_optimal = h.is_end; point = e; weights = f }

  pub made_blocked : (t : Table) (values : List Rational) (r : ℕ) (place : Place) (source : Source) (w : Weights) → IsEnded s t values (Blocked r place) → source ≡ source_of place r → w ≡ weights_of p ds (weights_from t source)
      → IsInfeasibleRelaxation p ds sides w
  made_blocked t values r place source w h e f = go place h.is_end (f ∙ ap (λ z. weights_of p ds (weights_from t z)) e)
    where
      go : (q : Place) → IsBlocked s t.places (dictionary_of t) (number_at values) r q → w ≡ weights_of p ds (weights_from t (source_of q r)) → IsInfeasibleRelaxation p ds sides w
      go Basic k g = absurd k.passed
      go AtLower k g = IsInfeasibleRelaxation.blocked t.places (dictionary_of t) (number_at values) r AtLower k g
      go AtUpper k g = IsInfeasibleRelaxation.blocked t.places (dictionary_of t) (number_at values) r AtUpper k g
      go AtZero k g = absurd k.passed

  pub made_unbounded : (t : Table) (values : List Rational) (q : ℕ) (rises : Bool) (columns : List Column) (x ray : List Rational) → IsEnded s t values (Endless q rises) → columns ≡ p.columns → x ≡ numbers_from 0 (length columns) (number_at values)
      → ray ≡ whole_ray columns (along t q rises) → IsUnboundedRelaxation p ds sides x ray
  made_unbounded t values q rises columns x ray h same e f = record {
    basis = t.places;
    dictionary = dictionary_of t;
    values = number_at values;
    mover = q;
    direction = along t q rises;
    is_unbounded = h.is_end;
    point = e ∙ ap (λ (cs : List Column). numbers_from 0 (length cs) (number_at values)) same;
    is_ray = f ∙ ap (λ (cs : List Column). whole_ray cs (along t q rises)) same;
  }

  pub made_contradicted : (v : ℕ) (w : Weights) → IsContradictory s v → w ≡ weights_of p ds (contradiction_weights v) → IsInfeasibleRelaxation p ds sides w
  made_contradicted v w h e = IsInfeasibleRelaxation.contradiction v h e

  -- ---- faults of rays

  module _ (t : Table) (values : List Rational) (q : ℕ) (rises : Bool) (h : IsEnded s t values (Endless q rises)) where
    abbrev r : ℕ → Rational
    r = along t q rises

    ray_site : (f : NoFit) → IsRayFault p.columns r f → IsNodeFault p ds sides f
    ray_site f (IsRayFault.denominators d) = record {
      operation = IsNodeOperation.of_denominators t.places (dictionary_of t) (number_at values) q r d.index d.number h.is_end d.is_number d.fault.left d.fault.right;
      not_fit = d.fault.not_fit;
    }
    ray_site f (IsRayFault.product j k d) = record {
      operation = IsNodeOperation.of_ray t.places (dictionary_of t) (number_at values) q r j h.is_end k d.left (ap operation_of d.times) d.right;
      not_fit = d.not_fit;
    }

    pub ray_fault : (columns : List Column) (f : NoFit) → columns ≡ p.columns → IsRayFault columns r f → IsNodeFault p ds sides f
    ray_fault columns f same fault = ray_site f (subst (λ (cs : List Column). IsRayFault cs r f) same fault)

  -- ---- stops

  pub run_stop : (now : System) (limit : ℕ) (e : RunFault) → now ≡ s → IsFaultOf now limit e → IsNodeStop p ds sides limit e
  run_stop now limit e same h = go e (subst (λ (z : System). IsFaultOf z limit e) same h)
    where
      go : (g : RunFault) → IsFaultOf s limit g → IsNodeStop p ds sides limit g
      go (R.NoFit f) k = record { operation = IsNodeOperation.of_run k.operation; not_fit = k.not_fit }
      go (R.PivotLimit bases) k = k
      go R.NoMemory k = tt

  split_site : (f : NoFit) → AreSplitFaults sides f → IsNodeFault p ds sides f
  split_site f h = record {
    operation = IsNodeOperation.above_split h.index h.side h.is_side h.fault.left (ap operation_of h.fault.adds) h.fault.right;
    not_fit = h.fault.not_fit;
  }

  pub split_stop : (limit : ℕ) (e : Fault) (g : RunFault) → g ≡ stop_of e → IfNoFit (AreSplitFaults sides) e → IsNodeStop p ds sides limit g
  split_stop limit e g same h = subst (IsNodeStop p ds sides limit) (sym same) (go e h)
    where
      go : (d : Fault) → IfNoFit (AreSplitFaults sides) d → IsNodeStop p ds sides limit (stop_of d)
      go (F.NoFit f) k = split_site f k
      go F.NoMemory k = tt
