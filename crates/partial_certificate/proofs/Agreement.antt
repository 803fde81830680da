-- What the outcome of a check says of the tests, and what an accepted partial certificate shows.
use Rattle.std.proofs.Common.{◌≡◌, ◌∙◌, ℕ, ◌+◌, ◌==◌, ◌&&◌, cond, inl, inr, ⊎_elim, ◌⊎◌, Bool, true, false, if◌then◌else◌, List, [], ◌∷◌, ◌++◌, length, map, take, reverse, Option, Some, None, is_some, Result, Ok, Err, IfOk, IfErr, IfSome, refl, sym, ap, subst, append-nil}
use Rattle.rational.specs.Rational.{Rational, zero_ℚ, ◌+ℚ◌, ◌*ℚ◌, ◌≤ℚ◌}
use Rattle.rational.specs.Compare.{is_same}
use Rattle.rational.proofs.Laws as Q
use Rattle.rational.proofs.Laws.{same_true}
use Rattle.milp.specs.Form.{sum_at}
use Rattle.milp.specs.Problem.{Problem}
use Rattle.milp.specs.Points.{Feasible, objective_value, sign_of}
use Rattle.fraction.specs.declared.frac.NoFit.{NoFit}
use Rattle.fraction.specs.Fits.{sum_fits}
use Rattle.fraction.specs.Answers.{add_answer}
use Rattle.instance.specs.Sums.{and_then, sum_answer, rows_answer, meets_answer}
use Rattle.instance.proofs.Laws.{sum_fits_ok, and_rest, rows_ok}
use Rattle.verdicts.specs.Certificate.{Two, Side, Derived}
use Rattle.verdicts.specs.Proves.{Part, Test, below, meets, meets_columns, meets_rows, first_failing, derived_tests}
use Rattle.verdicts.proofs.Laws.{meets_true}
use Rattle.cert_check.specs.Parts.{form_value_answer, value_answer}
use Rattle.cert_check.specs.Outcome.{Trial, Outcome, Acceptance, Refusal, Fault, judged, outcome, derived_trials, form_goal, outcome_of, part_of, IfRefused, HoldsUpTo}
use Rattle.cert_check.specs.declared.part.Checked.{Checked}
use Rattle.cert_check.specs.declared.part.Checked.TheVariants.{Accepted, Refused}
use Rattle.cert_check.specs.declared.part.CheckFault.{CheckFault}
use Rattle.cert_check.proofs.Laws.{ok_then, derived_ok, node_ok}
use Rattle.partial_certificate.specs.Partial.{Best, PartialNode, Done, Todo, Partial, shape}
use Rattle.partial_certificate.specs.Outcome.{partial_answer, node_trials, tree_trials, best_trials, trials}
use Rattle.partial_certificate.specs.Shown.{partial_passes, node_tests, tree_tests, best_tests, tests, Passes, IsReached, IsNoBetter, LiesAtTodo, Shows}
use Rattle.partial_certificate.proofs.Covered.{passing, passing_both, rows_hold, IsAtLeast, IsLeft, tree_told}

-- ---- the same parts, and each answer that is there is the test's

Agree : List Trial → List Test → Type 0
Agree [] [] = Unit {0}
Agree [] (t ∷ ts) = ⊥
Agree (a ∷ xs) [] = ⊥
Agree (a ∷ xs) (t ∷ ts) = (a.part ≡ t.part) × IfOk a.answer (λ b. b ≡ t.passes) × Agree xs ts

both_agree : (xs bs : List Trial) (ts us : List Test) → Agree xs ts → Agree bs us → Agree (xs ++ bs) (ts ++ us)
unfolding Agree
both_agree [] bs [] us h k = k
both_agree [] bs (t ∷ ts) us h k = absurd h
both_agree (a ∷ xs) bs [] us h k = absurd h
both_agree (a ∷ xs) bs (t ∷ ts) us h k = (h.0, h.1, both_agree xs bs ts us h.2 k)

derived_agree : (p : Problem) (k : ℕ) (before ds : List Derived) → Agree (derived_trials p Two k before ds) (derived_tests p Two k before ds)
unfolding Agree
derived_agree p k before [] = tt
derived_agree p k before (d ∷ ds) = (refl, derived_ok p Two before d, derived_agree p (k + 1) (before ++ d ∷ []) ds)

partial_ok : (p : Problem) (goal : Option Rational) (ds : List Derived) (sides : List Side) (node : PartialNode) → IfOk (partial_answer (record { version = Two; problem = p; derived = ds; sides = sides }) (form_goal p goal) node) (λ b. b ≡ partial_passes p goal ds sides node)
partial_ok p goal ds sides (Done node) = node_ok p Two goal ds sides node
partial_ok p goal ds sides Todo = refl

nodes_agree : (p : Problem) (goal : Option Rational) (ds : List Derived) (k : ℕ) (places : List (List Side)) (nodes : List PartialNode) → Agree (node_trials p (form_goal p goal) ds k places nodes) (node_tests p goal ds k places nodes)
unfolding Agree
nodes_agree p goal ds k [] [] = tt
nodes_agree p goal ds k [] (node ∷ nodes) = (refl, refl, tt)
nodes_agree p goal ds k (sides ∷ places) [] = (refl, refl, tt)
nodes_agree p goal ds k (sides ∷ places) (node ∷ nodes) = (refl, partial_ok p goal ds sides node, nodes_agree p goal ds (k + 1) (below (shape node) sides ++ places) nodes)

tree_agree : (p : Problem) (goal : Option Rational) (c : Partial) → Agree (tree_trials p (form_goal p goal) c) (tree_tests p goal c)
tree_agree p goal c = both_agree (derived_trials p Two 1 [] c.derived) (node_trials p (form_goal p goal) c.derived 1 ([] ∷ []) c.tree) (derived_tests p Two 1 [] c.derived) (node_tests p goal c.derived 1 ([] ∷ []) c.tree) (derived_agree p 1 [] c.derived) (nodes_agree p goal c.derived 1 ([] ∷ []) c.tree)

point_ok : (p : Problem) (x : List Rational) → IfOk (meets_answer p x) (λ b. b ≡ meets p x)
point_ok p x = and_rest (meets_columns false p.columns x) (meets_rows false p.rows x) (rows_answer x p.rows) (rows_ok x p.rows)

value_ok : (p : Problem) (x : List Rational) (v : Rational) → IfOk (value_answer p (Some x) (Some v)) (λ b. b ≡ is_same v (objective_value p x))
value_ok p x v =
    ok_then (form_value_answer p x v) (λ f. Ok (is_some f)) (λ o. is_some o ≡ is_same v (objective_value p x)) (λ b. b ≡ is_same v (objective_value p x))
    (ok_then (sum_answer x zero_ℚ p.objective) (λ f. and_then (add_answer f p.constant) (λ t. Ok (if is_same v t then Some f else None))) (λ f. f ≡ sum_at x p.objective) (λ o. is_some o ≡ is_same v (objective_value p x)) (sum_fits_ok x p.objective)
    (λ f ef. ok_then (add_answer f p.constant) (λ t. Ok (if is_same v t then Some f else None)) (λ t. t ≡ f +ℚ p.constant) (λ o. is_some o ≡ is_same v (objective_value p x)) (add_ok (sum_fits f p.constant) (f +ℚ p.constant) _)
    (λ t et. picked f (is_same v t) ∙ ap (is_same v) (et ∙ ap (λ z. z +ℚ p.constant) ef))))
    (λ o e. e)
  where
    add_ok : (t : Bool) (v : Rational) (e : NoFit) → IfOk (cond t (Ok v) (Err e)) (λ w. w ≡ v)
    add_ok true v e = refl
    add_ok false v e = tt

    picked : (f : Rational) (b : Bool) → is_some (if b then Some f else None) ≡ b
    picked f true = refl
    picked f false = refl

best_agree : (p : Problem) (c : Partial) (o : Option Best) → Agree (best_trials p c o) (best_tests p c o)
unfolding Agree
best_agree p c None = tree_agree p None c
best_agree p c (Some b) = (refl, point_ok p b.point, (refl, value_ok p b.point b.value, tree_agree p (Some b.value) c))

all_agree : (p : Problem) (c : Partial) → Agree (trials p c) (tests p c)
unfolding Agree
all_agree p c = (refl, refl, best_agree p c c.best)

-- ---- what each outcome says

Says : List Test → Outcome → Type 0
Says ts Acceptance = first_failing ts ≡ None
Says ts (Refusal part) = first_failing ts ≡ Some part
Says ts (Fault part e) = HoldsUpTo part ts

one_more : (t : Test) (ts : List Test) (o : Outcome) → t.passes ≡ true → Says ts o → Says (t ∷ ts) o
unfolding Says
one_more t ts Acceptance e h = rw e h
one_more t ts (Refusal part) e h = rw e h
one_more t ts (Fault part d) e h = inr (e, h)

outcome_says : (xs : List Trial) (ts : List Test) → Agree xs ts → Says ts (outcome xs)
unfolding Agree Says
outcome_says [] [] h = refl
outcome_says [] (t ∷ ts) h = absurd h
outcome_says (a ∷ xs) [] h = absurd h
outcome_says (a ∷ xs) (t ∷ ts) h = go a.answer h.1 (outcome_says xs ts h.2)
  where
    fails : (b : Bool) → false ≡ b → (if b then first_failing ts else Some t.part) ≡ Some a.part
    fails true e = cc
    fails false e = ap Some (sym h.0)

    go : (r : Result Bool NoFit) → IfOk r (λ b. b ≡ t.passes) → Says ts (outcome xs) → Says (t ∷ ts) (judged a.part r (outcome xs))
    go (Ok true) e k = one_more t ts (outcome xs) (sym e) k
    go (Ok false) e k = fails t.passes e
    go (Err d) e k = inl (sym h.0)

-- ---- what is shown where all tests hold

lies_at_todo : (nodes : List PartialNode) (x : List Rational) → IsLeft [] nodes x → LiesAtTodo nodes x
lies_at_todo nodes x h = record { place = h.place; todo = h.todo; sides = rw (append-nil (reverse (take h.place (map shape nodes)))) at h.sides }

tree_shows : (p : Problem) (goal : Option Rational) (c : Partial) → first_failing (tree_tests p goal c) ≡ None → (x : List Rational) → Feasible p x → IsAtLeast p goal x ⊎ LiesAtTodo c.tree x
tree_shows p goal c h x f =
    let both = passing_both (derived_tests p Two 1 [] c.derived) (node_tests p goal c.derived 1 ([] ∷ []) c.tree) h in
    let told = tree_told p goal c.derived x f (rows_hold p x f 1 [] c.derived (λ k. tt) both.0) c.tree 1 [] 1 both.1 in
    ⊎_elim (λ l. inl l) (λ r. inr (lies_at_todo c.tree x r)) (told.0 tt)

no_better : (p : Problem) (b : Best) (x : List Rational) → b.value ≡ objective_value p b.point → IsAtLeast p (Some b.value) x → IsNoBetter p (Some b) x
no_better p b x e h = λ better. Q.lt-not-le _ _ better (subst (λ v. sign_of p.direction *ℚ v ≤ℚ sign_of p.direction *ℚ objective_value p x) e h)

best_shows : (p : Problem) (c : Partial) (o : Option Best) → c.best ≡ o → first_failing (best_tests p c o) ≡ None → Shows p c
best_shows p c None e h =
    let Q : Option Best → Type 0 = λ o. IfSome o (IsReached p) in
    let R : Option Best → Type 0 = λ o. (x : List Rational) → Feasible p x → IsNoBetter p o x ⊎ LiesAtTodo c.tree x in
    record { best = subst Q (sym e) tt; points = subst R (sym e) (tree_shows p None c h) }
best_shows p c (Some b) e h =
    let one = passing (record { part = Part.Point; passes = meets p b.point }) (record { part = Part.Value; passes = is_same b.value (objective_value p b.point) } ∷ tree_tests p (Some b.value) c) h in
    let two = passing (record { part = Part.Value; passes = is_same b.value (objective_value p b.point) }) (tree_tests p (Some b.value) c) one.1 in
    let same : b.value ≡ objective_value p b.point = same_true _ _ two.0 in
    let Q : Option Best → Type 0 = λ o. IfSome o (IsReached p) in
    let R : Option Best → Type 0 = λ o. (x : List Rational) → Feasible p x → IsNoBetter p o x ⊎ LiesAtTodo c.tree x in
    record {
      best = subst Q (sym e) (record { feasible = meets_true p b.point one.0; value = same });
      points = subst R (sym e) (λ x f. ⊎_elim (λ l. inl (no_better p b x same l)) (λ r. inr r) (tree_shows p (Some b.value) c two.1 x f));
    }

pub tests_show : (p : Problem) (c : Partial) → Passes p c → Shows p c
tests_show p c h = best_shows p c c.best refl (passing (record { part = Part.Size; passes = (c.rows == length p.rows) && (c.columns == length p.columns) }) (best_tests p c c.best) h).1

-- all tests of an accepted one hold
pub accepted_pass : (p : Problem) (c : Partial) → outcome (trials p c) ≡ Acceptance → Passes p c
unfolding Says
accepted_pass p c h = subst (Says (tests p c)) h (outcome_says (trials p c) (tests p c) (all_agree p c))

pub accepted_show : (p : Problem) (c : Partial) → outcome (trials p c) ≡ Acceptance → Shows p c
accepted_show p c h = tests_show p c (accepted_pass p c h)

-- ---- the clauses of the check

pub check_accepted : (p : Problem) (c : Partial) (r : Result Checked CheckFault) → outcome_of r ≡ outcome (trials p c) → IfOk r (λ r. r ≡ Accepted → Shows p c)
check_accepted p c (Err e) h = tt
check_accepted p c (Ok (Refused part)) h = λ k. cc
check_accepted p c (Ok Accepted) h = λ k. accepted_show p c (sym h)

pub check_refused : (p : Problem) (c : Partial) (r : Result Checked CheckFault) → outcome_of r ≡ outcome (trials p c) → IfOk r (λ r. IfRefused r (λ part. first_failing (tests p c) ≡ Some part))
unfolding Says
check_refused p c (Err e) h = tt
check_refused p c (Ok Accepted) h = tt
check_refused p c (Ok (Refused part)) h = subst (Says (tests p c)) (sym h) (outcome_says (trials p c) (tests p c) (all_agree p c))

pub check_no_fit : (p : Problem) (c : Partial) (r : Result Checked CheckFault) → outcome_of r ≡ outcome (trials p c) → IfErr r (λ e. HoldsUpTo (part_of e.part) (tests p c))
unfolding Says
check_no_fit p c (Ok r) h = tt
check_no_fit p c (Err e) h = subst (Says (tests p c)) (sym h) (outcome_says (trials p c) (tests p c) (all_agree p c))
