-- What the outcome of a check says of the definition's tests.
use Rattle.std.proofs.Common.{◌≡◌, ℕ, ◌+◌, inl, inr, Bool, true, false, if◌then◌else◌, List, [], ◌∷◌, ◌++◌, Option, Some, None, Result, Ok, Err, IfOk, IfErr, refl, sym, ap, subst}
use Rattle.rational.specs.Rational.{Rational}
use Rattle.fraction.specs.declared.frac.NoFit.{NoFit}
use Rattle.milp.specs.Problem.{Problem}
use Rattle.verdicts.specs.Certificate.{Version, Verdict, Optimal, Infeasible, Unbounded, Side, Derived, TreeNode, Certificate}
use Rattle.verdicts.specs.Proves.{Test, below, first_failing, derived_tests, node_tests, tree_tests, verdict_tests, tests, Proves, Holds}
use Rattle.verdicts.proofs.Laws.{certificate_right}
use Rattle.cert_check.specs.Outcome.{Trial, Outcome, Acceptance, Refusal, Fault, judged, outcome, derived_trials, node_trials, tree_trials, form_goal, verdict_trials, trials, outcome_of, part_of, IfRefused, HoldsUpTo}
use Rattle.cert_check.specs.declared.part.Checked.{Checked}
use Rattle.cert_check.specs.declared.part.Checked.TheVariants.{Accepted, Refused}
use Rattle.cert_check.specs.declared.part.CheckFault.{CheckFault}
use Rattle.cert_check.proofs.PartLaws.{point_ok, value_ok, ray_ok, derived_ok, node_ok}

-- the same parts, and each answer that is there is the test's
Agree : List Trial → List Test → Type 0
Agree [] [] = Unit {0}
Agree [] (t ∷ ts) = ⊥
Agree (a ∷ xs) [] = ⊥
Agree (a ∷ xs) (t ∷ ts) = (a.part ≡ t.part) × IfOk a.answer (λ b. b ≡ t.passes) × Agree xs ts

both_agree : (xs bs : List Trial) (ts us : List Test) → Agree xs ts → Agree bs us → Agree (xs ++ bs) (ts ++ us)
unfolding Agree
both_agree [] bs [] us h k = k
both_agree [] bs (t ∷ ts) us h k = absurd h
both_agree (a ∷ xs) bs [] us h k = absurd h
both_agree (a ∷ xs) bs (t ∷ ts) us h k = (h.0, h.1, both_agree xs bs ts us h.2 k)

derived_agree : (p : Problem) (v : Version) (k : ℕ) (before ds : List Derived) → Agree (derived_trials p v k before ds) (derived_tests p v k before ds)
unfolding Agree
derived_agree p v k before [] = tt
derived_agree p v k before (d ∷ ds) = (refl, derived_ok p v before d, derived_agree p v (k + 1) (before ++ d ∷ []) ds)

nodes_agree : (p : Problem) (v : Version) (goal : Option Rational) (ds : List Derived) (k : ℕ) (places : List (List Side)) (nodes : List TreeNode) → Agree (node_trials p v (form_goal p goal) ds k places nodes) (node_tests p v goal ds k places nodes)
unfolding Agree
nodes_agree p v goal ds k [] [] = tt
nodes_agree p v goal ds k [] (node ∷ nodes) = (refl, refl, tt)
nodes_agree p v goal ds k (sides ∷ places) [] = (refl, refl, tt)
nodes_agree p v goal ds k (sides ∷ places) (node ∷ nodes) = (refl, node_ok p v goal ds sides node, nodes_agree p v goal ds (k + 1) (below node sides ++ places) nodes)

tree_agree : (p : Problem) (goal : Option Rational) (c : Certificate) → Agree (tree_trials p (form_goal p goal) c) (tree_tests p goal c)
tree_agree p goal c = both_agree (derived_trials p c.version 1 [] c.derived) (node_trials p c.version (form_goal p goal) c.derived 1 ([] ∷ []) c.tree) (derived_tests p c.version 1 [] c.derived) (node_tests p c.version goal c.derived 1 ([] ∷ []) c.tree) (derived_agree p c.version 1 [] c.derived) (nodes_agree p c.version goal c.derived 1 ([] ∷ []) c.tree)

verdict_agree : (p : Problem) (c : Certificate) (v : Verdict) → Agree (verdict_trials p c v) (verdict_tests p c v)
unfolding Agree
verdict_agree p c Optimal = (refl, point_ok p c.point, (refl, value_ok p c.point c.value, tree_agree p c.value c))
verdict_agree p c Infeasible = tree_agree p None c
verdict_agree p c Unbounded = (refl, point_ok p c.point, (refl, ray_ok p c.ray, tt))

all_agree : (p : Problem) (c : Certificate) → Agree (trials p c) (tests p c)
unfolding Agree
all_agree p c = (refl, refl, verdict_agree p c c.verdict)

-- ---- what each outcome says

Says : List Test → Outcome → Type 0
Says ts Acceptance = first_failing ts ≡ None
Says ts (Refusal part) = first_failing ts ≡ Some part
Says ts (Fault part e) = HoldsUpTo part ts

one_more : (t : Test) (ts : List Test) (o : Outcome) → t.passes ≡ true → Says ts o → Says (t ∷ ts) o
unfolding Says
one_more t ts Acceptance e h = rw e h
one_more t ts (Refusal part) e h = rw e h
one_more t ts (Fault part d) e h = inr (e, h)

outcome_says : (xs : List Trial) (ts : List Test) → Agree xs ts → Says ts (outcome xs)
unfolding Agree Says
outcome_says [] [] h = refl
outcome_says [] (t ∷ ts) h = absurd h
outcome_says (a ∷ xs) [] h = absurd h
outcome_says (a ∷ xs) (t ∷ ts) h = go a.answer h.1 (outcome_says xs ts h.2)
  where
    fails : (b : Bool) → false ≡ b → (if b then first_failing ts else Some t.part) ≡ Some a.part
    fails true e = cc
    fails false e = ap Some (sym h.0)

    go : (r : Result Bool NoFit) → IfOk r (λ b. b ≡ t.passes) → Says ts (outcome xs) → Says (t ∷ ts) (judged a.part r (outcome xs))
    go (Ok true) e k = one_more t ts (outcome xs) (sym e) k
    go (Ok false) e k = fails t.passes e
    go (Err d) e k = inl (sym h.0)

pub check_accepted : (p : Problem) (c : Certificate) (r : Result Checked CheckFault) → outcome_of r ≡ outcome (trials p c) → IfOk r (λ r. r ≡ Accepted → Proves p c)
unfolding Says
check_accepted p c (Err e) h = tt
check_accepted p c (Ok (Refused part)) h = λ k. cc
check_accepted p c (Ok Accepted) h = λ k. subst (Says (tests p c)) (sym h) (outcome_says (trials p c) (tests p c) (all_agree p c))

pub check_holds : (p : Problem) (c : Certificate) (r : Result Checked CheckFault) → outcome_of r ≡ outcome (trials p c) → IfOk r (λ r. r ≡ Accepted → Holds p c c.verdict)
check_holds p c (Err e) h = tt
check_holds p c (Ok r) h = λ k. certificate_right p c (check_accepted p c (Ok r) h k)

pub check_refused : (p : Problem) (c : Certificate) (r : Result Checked CheckFault) → outcome_of r ≡ outcome (trials p c) → IfOk r (λ r. IfRefused r (λ part. first_failing (tests p c) ≡ Some part))
unfolding Says
check_refused p c (Err e) h = tt
check_refused p c (Ok Accepted) h = tt
check_refused p c (Ok (Refused part)) h = subst (Says (tests p c)) (sym h) (outcome_says (trials p c) (tests p c) (all_agree p c))

pub check_no_fit : (p : Problem) (c : Certificate) (r : Result Checked CheckFault) → outcome_of r ≡ outcome (trials p c) → IfErr r (λ e. HoldsUpTo (part_of e.part) (tests p c))
unfolding Says
check_no_fit p c (Ok r) h = tt
check_no_fit p c (Err e) h = subst (Says (tests p c)) (sym h) (outcome_says (trials p c) (tests p c) (all_agree p c))
