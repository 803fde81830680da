-- The trials of a certificate without feasible points read rows, bounds and splits alone: without the objective they are the same.
use Rattle.std.proofs.Common.{◌≡◌, ◌∙◌, ℕ, ◌+◌, List, [], ◌∷◌, ◌++◌, length, Bool, ◌&&◌, ◌==◌, if◌then◌else◌, Option, Some, None, slice_get, Result, Ok, refl, sym, ap, subst}
use mathlib.Core.Path.{ap₂}
use Rattle.rational.specs.Rational.{Rational, zero_ℚ, whole}
use Rattle.rational.specs.Compare.{is_less, is_whole, is_at_most}
use Rattle.milp.specs.Form.{Entry}
use Rattle.milp.specs.Problem.{Problem}
use Rattle.fraction.specs.declared.frac.NoFit.{NoFit}
use Rattle.instance.specs.Sums.{and_then}
use Rattle.verdicts.specs.Certificate.{Version, One, Two, Item, Weights, Split, Side, Low, High, FormSplit, Proof, Plain, BySplit, Derived, TreeNode, Branch, Empty, Bound, Infeasible, Verdict, Certificate}
use Rattle.verdicts.specs.Proves.{narrows, may_split, greater, lesser, lower_under, upper_under, way_get, narrowed, taken, is_integer, is_whole_form, below, Proves}
use Rattle.verdicts.specs.Proves as of
use Rattle.cert_check.specs.Setting.{Setting}
use Rattle.cert_check.specs.Sums.{and_also, next_answer, lower_answer, row_bound, derived_bound, split_bound, are_there, with_bounds, weight_products, are_forms}
use Rattle.cert_check.specs.Parts.{proof_setting, shown_answer, side_answer, proof_answer, derived_answer, node_answer}
use Rattle.cert_check.specs.Outcome.{Trial, Acceptance, outcome, derived_trials, node_trials, tree_trials, verdict_trials, trials}
use Rattle.cert_check.specs.declared.part.Checked.TheVariants.{Accepted}
use Rattle.cert_check.proofs.Laws.{check_accepted}
use Rattle.certificate.specs.declared.split.Side.TheVariants as on_side
use Rattle.branch_search.specs.WholeFaults.{without_objective}

abbrev setting : Problem → Version → List Derived → List Side → Setting
setting p v ds sides = record { version = v; problem = p; derived = ds; sides = sides }

-- ---- bounds under splits

-- the bounds below a split, from those above it
abbrev upper_below : Split → (ℕ → Option Rational) → ℕ → Option Rational
upper_below s above j = if narrows s j then Some (lesser (above j) (whole s.at)) else above j

abbrev lower_below : Split → (ℕ → Result (Option Rational) NoFit) → ℕ → Result (Option Rational) NoFit
lower_below s above j = if narrows s j then and_then (next_answer s.at) (λ b. and_then (above j) (λ o. Ok (Some (greater o b)))) else above j

same_upper : (p : Problem) (sides : List Side) → ◌≡◌ {A = ℕ → Option Rational} (λ j. upper_under (without_objective p) sides j) (λ j. upper_under p sides j)
same_upper p [] = refl
same_upper p (High s ∷ sides) = same_upper p sides
same_upper p (Low s ∷ sides) = ap (upper_below s) (same_upper p sides)

same_lower : (p : Problem) (sides : List Side) → ◌≡◌ {A = ℕ → Result (Option Rational) NoFit} (λ j. lower_answer (without_objective p) sides j) (λ j. lower_answer p sides j)
same_lower p [] = refl
same_lower p (Low s ∷ sides) = same_lower p sides
same_lower p (High s ∷ sides) = ap (lower_below s) (same_lower p sides)

-- ---- weights

-- the bounds that weights of rows, columns, derived rows and splits use
abbrev row_bounds : Problem → Item → Result (Option Rational) NoFit
row_bounds p i = Ok (row_bound i.weight (slice_get p.rows i.index))

abbrev column_bounds : (ℕ → Result (Option Rational) NoFit) → (ℕ → Option Rational) → Item → Result (Option Rational) NoFit
column_bounds lower upper i = if is_less zero_ℚ i.weight then lower i.index else Ok (upper i.index)

abbrev derived_bounds : List Derived → Item → Result (Option Rational) NoFit
derived_bounds ds i = Ok (derived_bound i.weight (slice_get ds i.index))

abbrev split_bounds : List Side → Item → Result (Option Rational) NoFit
split_bounds sides i = split_bound i.weight (way_get sides i.index)

-- what weights show, with these bounds of columns
abbrev shown_with : (Item → Result (Option Rational) NoFit) → Setting → Weights → (ℕ → Rational) → (Rational → Bool) → Result Bool NoFit
shown_with b s w wanted enough =
    and_also (and_also (are_there (row_bounds s.problem) w.rows) (and_also (are_there b w.columns) (and_also (are_there (derived_bounds s.derived) w.derived) (are_there (split_bounds (taken s.version s.sides)) w.splits))))
    (and_also (are_forms (weight_products s w) wanted 0 s.problem.columns)
    (and_then (and_then (with_bounds (row_bounds s.problem) zero_ℚ w.rows) (λ r. and_then (with_bounds b r w.columns) (λ c. and_then (with_bounds (derived_bounds s.derived) c w.derived) (λ d. with_bounds (split_bounds (taken s.version s.sides)) d w.splits)))) (λ r. Ok (enough r))))

same_shown : (p : Problem) (v : Version) (ds : List Derived) (sides : List Side) (w : Weights) (wanted : ℕ → Rational) (enough : Rational → Bool)
    → shown_answer (setting (without_objective p) v ds sides) w wanted enough ≡ shown_answer (setting p v ds sides) w wanted enough
same_shown p v ds sides w wanted enough = ap₂ (λ (lower : ℕ → Result (Option Rational) NoFit) (upper : ℕ → Option Rational). shown_with (column_bounds lower upper) (setting p v ds sides) w wanted enough) (same_lower p (narrowed v sides)) (same_upper p (narrowed v sides))

-- ---- derived rows

same_whole : (p : Problem) (form : List Entry) → is_whole_form (without_objective p) form ≡ is_whole_form p form
same_whole p [] = refl
same_whole p (e ∷ es) = ap (λ (b : Bool). (is_whole e.coefficient && is_integer (slice_get p.columns e.column)) && b) (same_whole p es)

same_split : (p : Problem) (low high : Result Bool NoFit) (s : FormSplit)
    → and_also (Ok (is_whole_form (without_objective p) s.form && (is_at_most zero_ℚ s.low && is_at_most zero_ℚ s.high))) (and_also low high) ≡ and_also (Ok (is_whole_form p s.form && (is_at_most zero_ℚ s.low && is_at_most zero_ℚ s.high))) (and_also low high)
same_split p low high s = ap (λ (b : Bool). and_also (Ok (b && (is_at_most zero_ℚ s.low && is_at_most zero_ℚ s.high))) (and_also low high)) (same_whole p s.form)

same_proof : (p : Problem) (v : Version) (before : List Derived) (form : List Entry) (bound : Rational) (proof : Proof)
    → proof_answer (proof_setting (without_objective p) v before) form bound proof ≡ proof_answer (proof_setting p v before) form bound proof
same_proof p One before form bound (Plain w) = refl
same_proof p Two before form bound (Plain w) = refl
same_proof p One before form bound (BySplit s) = same_split p (side_answer (proof_setting p One before) s on_side.Low form bound) (side_answer (proof_setting p One before) s on_side.High form bound) s
same_proof p Two before form bound (BySplit s) = same_split p (side_answer (proof_setting p Two before) s on_side.Low form bound) (side_answer (proof_setting p Two before) s on_side.High form bound) s

same_derived : (p : Problem) (v : Version) (before : List Derived) (d : Derived) → derived_answer (without_objective p) v before d ≡ derived_answer p v before d
same_derived p v before d = ap (λ (r : Result Bool NoFit). and_also (Ok (of.in_range (length p.columns) d.form)) r) (same_proof p v before d.form d.bound d.proof)

same_rows : (p : Problem) (v : Version) (k : ℕ) (before ds : List Derived) → derived_trials (without_objective p) v k before ds ≡ derived_trials p v k before ds
same_rows p v k before [] = refl
same_rows p v k before (d ∷ ds) = ap₂ (λ (r : Result Bool NoFit) (rest : List Trial). record { part = of.DerivedRow k; answer = r } ∷ rest) (same_derived p v before d) (same_rows p v (k + 1) (before ++ d ∷ []) ds)

-- ---- nodes

same_node : (p : Problem) (v : Version) (ds : List Derived) (sides : List Side) (node : TreeNode)
    → node_answer (setting (without_objective p) v ds sides) None node ≡ node_answer (setting p v ds sides) None node
same_node p v ds sides (Branch s) = ap (λ (b : Bool). Ok (may_split v s.form && b)) (same_whole p s.form)
same_node p v ds sides (Empty w) = same_shown p v ds sides w (λ j. zero_ℚ) (is_less zero_ℚ)
same_node p v ds sides (Bound w) = refl

same_nodes : (p : Problem) (v : Version) (ds : List Derived) (k : ℕ) (places : List (List Side)) (nodes : List TreeNode)
    → node_trials (without_objective p) v None ds k places nodes ≡ node_trials p v None ds k places nodes
same_nodes p v ds k [] [] = refl
same_nodes p v ds k [] (node ∷ nodes) = refl
same_nodes p v ds k (sides ∷ places) [] = refl
same_nodes p v ds k (sides ∷ places) (node ∷ nodes) =
    ap₂ (λ (r : Result Bool NoFit) (rest : List Trial). record { part = of.Node k; answer = r } ∷ rest) (same_node p v ds sides node) (same_nodes p v ds (k + 1) (below node sides ++ places) nodes)

same_tree : (p : Problem) (c : Certificate) → tree_trials (without_objective p) None c ≡ tree_trials p None c
same_tree p c = ap₂ (λ (xs ys : List Trial). xs ++ ys) (same_rows p c.version 1 [] c.derived) (same_nodes p c.version c.derived 1 ([] ∷ []) c.tree)

-- ---- the whole

same_verdict : (p : Problem) (c : Certificate) (v : Verdict) → v ≡ Infeasible → verdict_trials (without_objective p) c v ≡ verdict_trials p c v
same_verdict p c v e = subst (λ (u : Verdict). verdict_trials (without_objective p) c u ≡ verdict_trials p c u) (sym e) (same_tree p c)

same_trials : (p : Problem) (c : Certificate) → c.verdict ≡ Infeasible → trials (without_objective p) c ≡ trials p c
same_trials p c e = ap (λ (rest : List Trial). record { part = of.Size; answer = Ok ((c.rows == length p.rows) && (c.columns == length p.columns)) } ∷ rest) (same_verdict p c c.verdict e)

-- what shows that the problem without its objective has no point shows it of the problem
pub none_accepted : (p : Problem) (c : Certificate) → outcome (trials (without_objective p) c) ≡ Acceptance → c.verdict ≡ Infeasible → outcome (trials p c) ≡ Acceptance
none_accepted p c h e = ap (λ (ts : List Trial). outcome ts) (sym (same_trials p c e)) ∙ h

pub none_proves : (p : Problem) (c : Certificate) → outcome (trials (without_objective p) c) ≡ Acceptance → c.verdict ≡ Infeasible → Proves p c
none_proves p c h e = check_accepted p c (Ok Accepted) (sym (none_accepted p c h e)) refl
