-- States of a run: the first one, and what a step makes of one.
use Rattle.std.proofs.Common.{◌≡◌, ◌∙◌, ℕ, ◌+◌, ◌<◌, ◌≢◌, List, [], ◌∷◌, length, refl, sym, ap, subst, arith, false, Option, Some, None, IfSome, slice_get, inl, inr}
use Rattle.std.specs.Prelude.{pos, Result, Ok, Err, IfOk, IfErr, IsErrAnd}
use Rattle.std.proofs.lemmas.Option.{slice_get_within}
use Rattle.rational.specs.Rational.{Rational, one_ℚ, ◌+ℚ◌, ◌*ℚ◌}
use Rattle.milp.specs.Form.{Entry, value_at, number_at}
use Rattle.verdicts.specs.WeightedSums.{AllBelow}
use Rattle.basis.specs.System.{System, size, IsSystem, AreBoundsInOrder}
use Rattle.basis.specs.Dictionary.{place_of, IsBasic, IsResting, IsDictionary, RestsAt, IsBasicPoint, rate_of}
use Rattle.basis.specs.Bland.{exchanged, IsStart, IsRun, start_point}
use Rattle.basis.specs.Pivots.{IsPivoted, IsMoveOperation}
use Rattle.basis.specs.Operations.{IsSumOperation, IsRunOperation}
use Rattle.basis.specs.Numbers.{products_of, prefix_sum}
use Rattle.basis.specs.declared.Place.{Place}
use Rattle.basis.specs.declared.Place.TheVariants.{Basic}
use Rattle.basis.proofs.Laws.{pivot_keeps, basic_known, point_after, same_below, start_is_point}
use Rattle.fraction.specs.Answers.{result_fits}
use Rattle.fraction.specs.declared.frac.NoFit.{NoFit}
use Rattle.search_node.specs.Bases.{next_bases}
use Rattle.search_node.specs.declared.bases.Exchange.{Exchange}
use Rattle.dictionary.specs.Faults.{IfNoFit}
use Rattle.dictionary.specs.declared.fault.Fault.{Fault}
use Rattle.dictionary.specs.declared.fault.Fault.TheVariants as F
use Rattle.dictionary.specs.Rows.{IsProductOrSum}
use Rattle.dictionary.specs.Sums.{IsTermFault, IsStartFault, AreStartNumbers}
use Rattle.dictionary.specs.Table.{Table, dictionary_of, operation_of, IsPivotFault}
use Rattle.dictionary.specs.Values.{direction_of, AreMoved, IsVariableFault}
use Rattle.simplex.specs.Answer.{stop_of}
use Rattle.simplex.specs.Run.{IsRunFault, IsFaultOf}
use Rattle.simplex.specs.Steps.{IsReached, CanLeave, IsStep, IsStepOperation, IsStepFailure}
use Rattle.simplex.specs.declared.decision.Step.{Step}
use Rattle.simplex.specs.declared.runs.RunFault.{RunFault}
use Rattle.simplex.specs.declared.runs.RunFault.TheVariants.{NoFit as NotFitting, PivotLimit, NoMemory}
use Rattle.dictionary.proofs.Laws.{handed_on, is_direction, is_over_resting}

pub failed : {X : Type 0} (r : Result X RunFault) (f : RunFault) (P : RunFault → Type 0) → IsErrAnd r (λ d. d ≡ f) → P f → IfErr r P
failed (Ok u) f P h p = tt
failed (Err d) f P h p = subst P (sym h) p

-- ---- the first state

start_operation : (s : System) (b : List Place) (k : ℕ) (form : List Entry) (i : ℕ) (entry : Entry) (e : NoFit) → IsStart s b → slice_get s.forms k ≡ Some form → slice_get form i ≡ Some entry
    → IsTermFault (prefix_sum (products_of form (start_point s)) i) entry.coefficient (start_point s entry.column) e → IsRunFault s e
start_operation s b k form i entry e start is_form is_entry (IsTermFault.product named fit) =
    rw named (record { operation = IsRunOperation.at_start b k form start is_form (IsSumOperation.product i entry is_entry refl refl refl); not_fit = fit })
start_operation s b k form i entry e start is_form is_entry (IsTermFault.sum named fit) =
    rw named (record { operation = IsRunOperation.at_start b k form start is_form (IsSumOperation.sum i entry is_entry refl refl refl); not_fit = fit })

pub start_run_fault : (s : System) (b : List Place) (e : NoFit) → IsStart s b → IsStartFault s e → IsRunFault s e
start_run_fault s b e start f = start_operation s b f.index f.form f.fault.index f.fault.entry e start f.is_form f.fault.is_entry f.fault.fault

-- ---- points with the same numbers

point_alike : (s : System) (b : List Place) (x y : ℕ → Rational) → IsSystem s → length b ≡ size s → ((v : ℕ) → v < size s → y v ≡ x v) → IsBasicPoint s b x → IsBasicPoint s b y
point_alike s b x y h n same p = record {
  rests = λ v k. (let P : Rational → Type 0 = RestsAt s (place_of b v) v in subst P (sym (same v (omega arith))) (p.rests v k));
  solves = record { values = λ k. go k (slice_get s.forms k) refl (p.solves.values k) (h.forms k) };
}
  where
    go : (k : ℕ) (o : Option (List Entry)) → slice_get s.forms k ≡ o → IfSome o (λ form. x (s.columns + k) ≡ value_at x form) → IfSome o (AllBelow s.columns) → IfSome o (λ form. y (s.columns + k) ≡ value_at y form)
    go k None e l m = tt
    go k (Some form) e l m = let w = slice_get_within s.forms k form e in
        same (s.columns + k) (omega arith) ∙ l ∙ same_below s.columns x y form (λ v u. sym (same v (omega arith))) m

pub start_state : (s : System) (t : Table) (xs : List Rational) (places : List Place) (bases : List (List Place)) → IsSystem s → AreBoundsInOrder s → IsStart s t.places → IsDictionary s t.places (dictionary_of t) → AreStartNumbers s xs
    → places ≡ t.places → bases ≡ places ∷ [] → IsReached s t xs bases
start_state s t xs places bases h in_order start k numbers e f = record {
  is_system = h;
  in_order = in_order;
  before = [];
  all = f ∙ ap (λ b. b ∷ []) e;
  is_state = record {
    is_run = start;
    is_dictionary = k;
    is_point = point_alike s t.places (start_point s) (number_at xs) h k.size numbers.numbers (start_is_point s t.places h start);
    size = numbers.size;
  };
}

-- ---- the exchange

pub leaves_basic : (t : Table) (step : Step) → CanLeave t step → step.leaves ≢ step.enters → IsBasic t.places step.leaves × ((rate_of (dictionary_of t) step.enters step.leaves).numerator ≢ pos 0)
leaves_basic t step (inl same) differ = absurd (differ same)
leaves_basic t step (inr h) differ = h

pub pivoted_dictionary : (t : Table) (q r : ℕ) (place : Place) (res : Result Table Fault) → IsResting t.places q → IsBasic t.places r × ((rate_of (dictionary_of t) q r).numerator ≢ pos 0) → place ≢ Basic → IfOk res (λ d. d.places ≡ exchanged t.places q r place)
    → IfOk res (λ d. IsPivoted t.places (dictionary_of t) (dictionary_of d) q r) → IfOk res (λ d. (s : System) → IsDictionary s t.places (dictionary_of t) → IsDictionary s d.places (dictionary_of d))
pivoted_dictionary t q r place (Err e) enters leaves stops basis pivoted = tt
pivoted_dictionary t q r place (Ok d) enters leaves stops basis pivoted = λ s h.
    (let P : List Place → Type 0 = λ b. IsDictionary s b (dictionary_of d) in
    let R = is_over_resting d in
    subst P (sym basis) (pivot_keeps s t.places (dictionary_of t) (dictionary_of d) q r place h leaves.0 enters stops leaves.1 pivoted (rw (← basis) R)))

pub pivoted_fault : (t : Table) (q r : ℕ) (res : Result Table Fault) → IsBasic t.places r → IfErr res (IfNoFit (IsPivotFault t q r)) → IfErr res (IfNoFit (λ e. IsBasic t.places r × IsPivotFault t q r e))
pivoted_fault t q r (Ok u) h k = tt
pivoted_fault t q r (Err f) h k = handed_on (IsPivotFault t q r) (λ e. IsBasic t.places r × IsPivotFault t q r e) f (λ e g. (h, g)) k

pub pivot_failure : (t : Table) (xs : List Rational) (step : Step) (f : Fault) → IfNoFit (λ e. IsBasic t.places step.leaves × IsPivotFault t step.enters step.leaves e) f → IsStepFailure t xs step (stop_of f)
pivot_failure t xs step (F.NoFit e) h = IsStepOperation.pivot h.0 h.1
pivot_failure t xs step F.NoMemory h = tt

-- ---- a step from a state

module _ (s : System) (t : Table) (xs : List Rational) (bases : List (List Place)) (at : IsReached s t xs bases) (step : Step) (is_step : IsStep s t xs step) where
  next : List Place
  next = exchanged t.places step.enters step.leaves step.place

  next_run : IsRun s (exchanged t.places step.enters step.leaves step.place) (t.places ∷ at.before)
  next_run = (is_step.is_step, at.is_state.is_run)

  leaves_known : step.leaves < length t.places
  leaves_known = elim is_step.leaves [
    | inl same ↦ let k = is_step.enters.known in omega arith
    | inr basic ↦ basic_known t.places step.leaves basic.0
  ]

  enters_known : step.enters < size s
  enters_known = let k = is_step.enters.known in let e = at.is_state.is_dictionary.size in omega arith

  next_point : IsBasicPoint s (exchanged t.places step.enters step.leaves step.place) (λ v. number_at xs v +ℚ step.by *ℚ direction_of t step.enters v)
  next_point = point_after s t.places (dictionary_of t) (number_at xs) step.enters step.leaves step.place one_ℚ step.by (direction_of t step.enters) at.is_state.is_dictionary at.is_state.is_point
      (is_direction t step.enters is_step.enters) is_step.enters.known leaves_known is_step.lands

  variable_operation : (v : ℕ) (e : NoFit) → v < length xs → IsVariableFault t step.enters step.by v (number_at xs v) e → IsMoveOperation s t.places (number_at xs) (dictionary_of t) step.enters step.by e.a (operation_of e.op) e.b × (result_fits e ≡ false)
  variable_operation v e h (IsVariableFault.mover same named fit) = rw named (IsMoveOperation.mover (ap (number_at xs) same) refl refl, fit)
  variable_operation v e h (IsVariableFault.basic basic (IsProductOrSum.product named fit)) = rw named (IsMoveOperation.product v (let k = at.is_state.size in omega arith) basic refl refl refl, fit)
  variable_operation v e h (IsVariableFault.basic basic (IsProductOrSum.sum named fit)) = rw named (IsMoveOperation.sum v (let k = at.is_state.size in omega arith) basic refl refl refl, fit)

  step_operation : (e : NoFit) → IsStepOperation t xs step e → IsRunFault s e
  step_operation e (IsStepOperation.move f) = let w = variable_operation f.variable e f.known f.fault in record {
    operation = IsRunOperation.of_move t.places (exchanged t.places step.enters step.leaves step.place) at.before (dictionary_of t) (number_at xs) step.enters step.by (direction_of t step.enters) next_run at.is_state.is_dictionary at.is_state.is_point
        (is_direction t step.enters is_step.enters) enters_known next_point w.0;
    not_fit = w.1;
  }
  step_operation e (IsStepOperation.pivot basic f) = record {
    operation = IsRunOperation.of_pivot t.places at.before (dictionary_of t) step.enters step.leaves step.place next_run at.is_state.is_dictionary basic is_step.enters is_step.stops some_rate f.operation;
    not_fit = f.not_fit;
  }
    where
      some_rate : (rate_of (dictionary_of t) step.enters step.leaves).numerator ≢ pos 0
      some_rate = elim is_step.leaves [
        | inl same ↦ let P : ℕ → Type 0 = IsBasic t.places in absurd (is_step.enters.not_basic (subst P same basic))
        | inr h ↦ h.1
      ]

  pub step_failure : (limit : ℕ) (f : RunFault) → IsStepFailure t xs step f → IsFaultOf s limit f
  step_failure limit (NotFitting e) h = step_operation e h
  step_failure limit (PivotLimit bs) h = absurd h
  step_failure limit NoMemory h = tt

  pub next_state : (u : Table) (ys : List Rational) (cs : List (List Place)) → u.places ≡ exchanged t.places step.enters step.leaves step.place
      → ((w : System) → IsDictionary w t.places (dictionary_of t) → IsDictionary w u.places (dictionary_of u)) → AreMoved t step.enters step.by xs ys
      → cs ≡ next_bases bases (record { enters = step.enters; leaves = step.leaves; place = step.place }) → IsReached s u ys cs
  next_state u ys cs e h moved f =
      let d = h s at.is_state.is_dictionary in
      let P : List Place → Type 0 = λ b. IsRun s b (t.places ∷ at.before) in
      let R : List Place → Type 0 = λ b. IsBasicPoint s b (λ v. number_at xs v +ℚ step.by *ℚ direction_of t step.enters v) in
      record {
        is_system = at.is_system;
        in_order = at.in_order;
        before = t.places ∷ at.before;
        all = f ∙ ap (λ bs. next_bases bs (record { enters = step.enters; leaves = step.leaves; place = step.place })) at.all ∙ ap (λ b. b ∷ t.places ∷ at.before) (sym e);
        is_state = record {
          is_run = subst P (sym e) next_run;
          is_dictionary = d;
          is_point = point_alike s u.places _ (number_at ys) at.is_system d.size (λ v k. moved.numbers v (let n = at.is_state.size in omega arith)) (subst R (sym e) next_point);
          size = moved.size ∙ at.is_state.size;
        };
      }

  pub next_count : (cs : List (List Place)) (e : Exchange) → cs ≡ next_bases bases e → length cs ≡ length bases + 1
  next_count cs e f = let after = ap length (f ∙ ap (λ bs. next_bases bs e) at.all) in let now = ap length at.all in after ∙ (omega arith) ∙ ap (λ n. n + 1) (sym now)
