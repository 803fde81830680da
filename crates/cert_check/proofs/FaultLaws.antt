-- A fault names an operation that does not fit.
use Rattle.std.proofs.Common.{◌≡◌, ℕ, ◌+◌, ◌&&◌, cond, if◌then◌else◌, Bool, true, false, List, [], ◌∷◌, ◌++◌, Option, Some, None, is_some, Result, Ok, Err, IfErr, refl, sym, subst}
use Rattle.std.specs.Prelude.{ℤ, neg_ℤ}
use Rattle.rational.specs.Rational.{Rational, zero_ℚ, one_ℚ, whole, ◌+ℚ◌, ◌*ℚ◌}
use Rattle.milp.specs.Form.{Entry, number_at}
use Rattle.milp.specs.Problem.{Column, Row, Problem}
use Rattle.milp.specs.Points.{sign_of}
use Rattle.fraction.specs.declared.frac.NoFit.{NoFit}
use Rattle.fraction.specs.declared.frac.Op.TheVariants.{Add, Mul}
use Rattle.fraction.specs.Fits.{fits, sum_fits}
use Rattle.fraction.specs.Answers.{add_answer, mul_answer, DoesNotFit}
use Rattle.rational.specs.Compare.{is_zero, is_less, is_at_most, is_same}
use Rattle.instance.specs.Sums.{and_then, step_answer, sum_answer, rows_answer}
use Rattle.verdicts.specs.WeightedSums.{coefficient_of}
use Rattle.verdicts.specs.Certificate.{Version, Verdict, Optimal, Infeasible, Unbounded, Item, Weights, Side as SideOf, FormSplit, Proof, Plain, BySplit, Derived, TreeNode, Branch, Empty, Bound, Certificate}
use Rattle.verdicts.specs.Certificate as of
use Rattle.verdicts.specs.Proves.{lies_above, lies_below, bound_for, meets_columns, narrows, narrowed, taken, way_get, greater, below, upper_under}
use Rattle.cert_check.specs.Setting.{Setting}
use Rattle.cert_check.specs.Sums.{and_also, with_product, next_answer, lower_answer, taken_bound, split_bound, bound_of, then_there, are_there, all_there, with_bound, with_bounds, bound_sum, Product, with_products, weight_products, are_forms}
use Rattle.cert_check.specs.Parts.{point_answer, goal_answer, value_answer, ray_rows_answer, ray_answer, shown_answer, proof_setting, side_weights, side_products, side_bound, side_answer, proof_answer, derived_answer, bound_answer, node_answer}
use Rattle.cert_check.specs.Outcome.{Trial, Outcome, Acceptance, Refusal, Fault, judged, outcome, derived_trials, node_trials, tree_trials, form_goal, verdict_trials, trials, outcome_of}
use Rattle.cert_check.specs.declared.kind.Kind.{Kind}
use Rattle.cert_check.specs.declared.kind.Kind.TheVariants.{OfRow, OfColumn, OfDerived, OfSplit}
use Rattle.certificate.specs.declared.split.Side.{Side}
use Rattle.certificate.specs.declared.split.Side.TheVariants.{Low, High}
use Rattle.cert_check.specs.declared.part.Checked.{Checked}
use Rattle.cert_check.specs.declared.part.CheckFault.{CheckFault}

-- its fault, if it has one, is an operation that does not fit
abbrev pub IsHonest : {A : Type 0} → Result A NoFit → Type 0
IsHonest r = IfErr r DoesNotFit

then_honest : {A B : Type 0} → (r : Result A NoFit) (f : A → Result B NoFit) → IsHonest r → ((a : A) → IsHonest (f a)) → IsHonest (and_then r f)
then_honest (Ok a) f h k = k a
then_honest (Err e) f h k = h

also_honest : (r rest : Result Bool NoFit) → IsHonest r → IsHonest rest → IsHonest (and_also r rest)
also_honest (Ok true) rest h k = k
also_honest (Ok false) rest h k = tt
also_honest (Err e) rest h k = h

cond_honest : (t : Bool) (r s : Result Bool NoFit) → IsHonest r → IsHonest s → IsHonest (cond t r s)
cond_honest true r s h k = h
cond_honest false r s h k = k

add_honest : (a b : Rational) → IsHonest (add_answer a b)
add_honest a b = go (sum_fits a b) refl
  where
    go : (t : Bool) → sum_fits a b ≡ t → IfErr (cond t (Ok (a +ℚ b)) (Err (record { a = a; op = Add; b = b }))) DoesNotFit
    go true e = tt
    go false e = e

mul_honest : (a b : Rational) → IsHonest (mul_answer a b)
mul_honest a b = go (fits (a *ℚ b)) refl
  where
    go : (t : Bool) → fits (a *ℚ b) ≡ t → IfErr (cond t (Ok (a *ℚ b)) (Err (record { a = a; op = Mul; b = b }))) DoesNotFit
    go true e = tt
    go false e = e

product_honest : (total a b : Rational) → IsHonest (with_product total a b)
product_honest total a b = then_honest (mul_answer a b) (λ p. add_answer total p) (mul_honest a b) (λ p. add_honest total p)

next_honest : (at : ℤ) → IsHonest (next_answer at)
next_honest at = add_honest (whole at) one_ℚ

lower_honest : (p : Problem) (sides : List SideOf) (j : ℕ) → IsHonest (lower_answer p sides j)
lower_honest p [] j = tt
lower_honest p (of.Low s ∷ sides) j = lower_honest p sides j
lower_honest p (of.High s ∷ sides) j = go (narrows s j) (lower_honest p sides j)
  where
    go : (t : Bool) → IsHonest (lower_answer p sides j) → IfErr (if t then and_then (next_answer s.at) (λ b. and_then (lower_answer p sides j) (λ o. Ok (Some (greater o b)))) else lower_answer p sides j) DoesNotFit
    go true h = then_honest (next_answer s.at) (λ b. and_then (lower_answer p sides j) (λ o. Ok (Some (greater o b)))) (next_honest s.at) (λ b. then_honest (lower_answer p sides j) (λ o. Ok (Some (greater o b))) h (λ o. tt))
    go false h = h

taken_honest : (side : SideOf) → IsHonest (taken_bound side)
taken_honest (of.Low s) = tt
taken_honest (of.High s) = then_honest (next_answer s.at) (λ b. Ok (Some b)) (next_honest s.at) (λ b. tt)

split_honest : (w : Rational) (o : Option SideOf) → IsHonest (split_bound w o)
split_honest w None = tt
split_honest w (Some side) = go (is_less zero_ℚ w)
  where
    go : (t : Bool) → IfErr (if t then taken_bound side else Ok None) DoesNotFit
    go true = taken_honest side
    go false = tt

bound_honest : (s : Setting) (kind : Kind) (i : Item) → IsHonest (bound_of s kind i)
bound_honest s OfRow i = tt
bound_honest s OfDerived i = tt
bound_honest s OfSplit i = split_honest i.weight (way_get (taken s.version s.sides) i.index)
bound_honest s OfColumn i = go (is_less zero_ℚ i.weight) (narrowed s.version s.sides)
  where
    go : (t : Bool) (sides : List SideOf) → IfErr (if t then lower_answer s.problem sides i.index else Ok (upper_under s.problem sides i.index)) DoesNotFit
    go true sides = lower_honest s.problem sides i.index
    go false sides = tt

there_honest : (s : Setting) (kind : Kind) (items : List Item) → IsHonest (are_there (bound_of s kind) items)
there_honest s kind [] = tt
there_honest s kind (i ∷ is) = then_honest (bound_of s kind i) (λ o. then_there o (are_there (bound_of s kind) is)) (bound_honest s kind i) (λ o. go o (there_honest s kind is))
  where
    go : (o : Option Rational) → IsHonest (are_there (bound_of s kind) is) → IsHonest (then_there o (are_there (bound_of s kind) is))
    go None h = tt
    go (Some b) h = h

all_there_honest : (s : Setting) (w : Weights) → IsHonest (all_there s w)
all_there_honest s w = also_honest _ _ (there_honest s OfRow w.rows) (also_honest _ _ (there_honest s OfColumn w.columns) (also_honest _ _ (there_honest s OfDerived w.derived) (there_honest s OfSplit w.splits)))

with_bound_honest : (total w : Rational) (o : Option Rational) → IsHonest (with_bound total w o)
with_bound_honest total w None = tt
with_bound_honest total w (Some b) = product_honest total w b

bounds_honest : (s : Setting) (kind : Kind) (total : Rational) (items : List Item) → IsHonest (with_bounds (bound_of s kind) total items)
bounds_honest s kind total [] = tt
bounds_honest s kind total (i ∷ is) = then_honest (bound_of s kind i) (λ o. and_then (with_bound total i.weight o) (λ t. with_bounds (bound_of s kind) t is)) (bound_honest s kind i) (λ o. then_honest (with_bound total i.weight o) (λ t. with_bounds (bound_of s kind) t is) (with_bound_honest total i.weight o) (λ t. bounds_honest s kind t is))

sum_honest : (s : Setting) (total : Rational) (w : Weights) → IsHonest (bound_sum s total w)
sum_honest s total w =
    then_honest (with_bounds (bound_of s OfRow) total w.rows) (λ r. and_then (with_bounds (bound_of s OfColumn) r w.columns) (λ c. and_then (with_bounds (bound_of s OfDerived) c w.derived) (λ d. with_bounds (bound_of s OfSplit) d w.splits))) (bounds_honest s OfRow total w.rows)
    (λ r. then_honest (with_bounds (bound_of s OfColumn) r w.columns) (λ c. and_then (with_bounds (bound_of s OfDerived) c w.derived) (λ d. with_bounds (bound_of s OfSplit) d w.splits)) (bounds_honest s OfColumn r w.columns)
    (λ c. then_honest (with_bounds (bound_of s OfDerived) c w.derived) (λ d. with_bounds (bound_of s OfSplit) d w.splits) (bounds_honest s OfDerived c w.derived)
    (λ d. bounds_honest s OfSplit d w.splits)))

products_honest : (total : Rational) (ps : List Product) → IsHonest (with_products total ps)
products_honest total [] = tt
products_honest total (p ∷ ps) = then_honest (with_product total p.weight p.factor) (λ t. with_products t ps) (product_honest total p.weight p.factor) (λ t. products_honest t ps)

forms_honest : (f : ℕ → List Product) (wanted : ℕ → Rational) (j : ℕ) (cs : List Column) → IsHonest (are_forms f wanted j cs)
forms_honest f wanted j [] = tt
forms_honest f wanted j (c ∷ cs) = then_honest (with_products zero_ℚ (f j)) (λ v. cond (is_same v (wanted j)) (are_forms f wanted (j + 1) cs) (Ok false)) (products_honest zero_ℚ (f j)) (λ v. cond_honest (is_same v (wanted j)) (are_forms f wanted (j + 1) cs) (Ok false) (forms_honest f wanted (j + 1) cs) tt)

shown_honest : (s : Setting) (w : Weights) (wanted : ℕ → Rational) (enough : Rational → Bool) → IsHonest (shown_answer s w wanted enough)
shown_honest s w wanted enough = also_honest _ _ (all_there_honest s w) (also_honest _ _ (forms_honest (weight_products s w) wanted 0 s.problem.columns) (then_honest (bound_sum s zero_ℚ w) (λ r. Ok (enough r)) (sum_honest s zero_ℚ w) (λ r. tt)))

side_bound_honest : (s : FormSplit) (side : Side) → IsHonest (side_bound s side)
side_bound_honest s Low = product_honest zero_ℚ s.low (whole (neg_ℤ s.at))
side_bound_honest s High = go (is_zero s.high)
  where
    go : (t : Bool) → IfErr (if t then Ok zero_ℚ else and_then (next_answer s.at) (λ b. with_product zero_ℚ s.high b)) DoesNotFit
    go true = tt
    go false = then_honest (next_answer s.at) (λ b. with_product zero_ℚ s.high b) (next_honest s.at) (λ b. product_honest zero_ℚ s.high b)

side_honest : (st : Setting) (s : FormSplit) (side : Side) (form : List Entry) (bound : Rational) → IsHonest (side_answer st s side form bound)
side_honest st s side form bound = also_honest _ _ (all_there_honest st (side_weights s side)) (also_honest _ _ (forms_honest (λ j. side_products s side j ++ weight_products st (side_weights s side) j) (coefficient_of form) 0 st.problem.columns) (then_honest (side_bound s side) (λ t. and_then (bound_sum st t (side_weights s side)) (λ r. Ok (is_at_most bound r))) (side_bound_honest s side) (λ t. then_honest (bound_sum st t (side_weights s side)) (λ r. Ok (is_at_most bound r)) (sum_honest st t (side_weights s side)) (λ r. tt))))

first_honest : (b : Bool) (rest : Result Bool NoFit) → IsHonest rest → IsHonest (and_also (Ok b) rest)
first_honest true rest h = h
first_honest false rest h = tt

proof_honest : (st : Setting) (form : List Entry) (bound : Rational) (proof : Proof) → IsHonest (proof_answer st form bound proof)
proof_honest st form bound (Plain w) = shown_honest st w (coefficient_of form) (is_at_most bound)
proof_honest st form bound (BySplit s) = first_honest _ _ (also_honest _ _ (side_honest st s Low form bound) (side_honest st s High form bound))

derived_honest : (p : Problem) (v : Version) (before : List Derived) (d : Derived) → IsHonest (derived_answer p v before d)
derived_honest p v before d = first_honest _ _ (proof_honest (proof_setting p v before) d.form d.bound d.proof)

leaf_honest : (s : Setting) (goal : Option Rational) (w : Weights) → IsHonest (bound_answer s goal w)
leaf_honest s None w = tt
leaf_honest s (Some f) w = shown_honest s w (λ j. sign_of s.problem.direction *ℚ coefficient_of s.problem.objective j) (is_at_most (sign_of s.problem.direction *ℚ f))

pub node_honest : (s : Setting) (goal : Option Rational) (node : TreeNode) → IsHonest (node_answer s goal node)
node_honest s goal (Branch b) = tt
node_honest s goal (Empty w) = shown_honest s w (λ j. zero_ℚ) (is_less zero_ℚ)
node_honest s goal (Bound w) = leaf_honest s goal w

form_honest : (x : List Rational) (total : Rational) (es : List Entry) → IsHonest (sum_answer x total es)
form_honest x total [] = tt
form_honest x total (e ∷ es) = then_honest (step_answer x total e) (λ s. sum_answer x s es) (product_honest total e.coefficient (number_at x e.column)) (λ s. form_honest x s es)

rows_honest : (x : List Rational) (rows : List Row) → IsHonest (rows_answer x rows)
rows_honest x [] = tt
rows_honest x (r ∷ rs) = then_honest (sum_answer x zero_ℚ r.entries) (λ v. cond (lies_above r.lower v && lies_below r.upper v) (rows_answer x rs) (Ok false)) (form_honest x zero_ℚ r.entries) (λ v. cond_honest _ (rows_answer x rs) (Ok false) (rows_honest x rs) tt)

ray_rows_honest : (x : List Rational) (rows : List Row) → IsHonest (ray_rows_answer x rows)
ray_rows_honest x [] = tt
ray_rows_honest x (r ∷ rs) = then_honest (sum_answer x zero_ℚ r.entries) (λ v. cond (lies_above (bound_for true r.lower) v && lies_below (bound_for true r.upper) v) (ray_rows_answer x rs) (Ok false)) (form_honest x zero_ℚ r.entries) (λ v. cond_honest _ (ray_rows_answer x rs) (Ok false) (ray_rows_honest x rs) tt)

pub point_honest : (p : Problem) (x : Option (List Rational)) → IsHonest (point_answer p x)
point_honest p None = tt
point_honest p (Some x) = cond_honest (meets_columns false p.columns x) (rows_answer x p.rows) (Ok false) (rows_honest x p.rows) tt

ray_honest : (p : Problem) (x : Option (List Rational)) → IsHonest (ray_answer p x)
ray_honest p None = tt
ray_honest p (Some x) = first_honest (meets_columns true p.columns x) _ (also_honest _ _ (ray_rows_honest x p.rows) (then_honest (sum_answer x zero_ℚ p.objective) (λ v. Ok (is_less (sign_of p.direction *ℚ v) zero_ℚ)) (form_honest x zero_ℚ p.objective) (λ v. tt)))

goal_honest : (p : Problem) (x : Option (List Rational)) (v : Option Rational) → IsHonest (goal_answer p x v)
goal_honest p None v = tt
goal_honest p (Some x) None = tt
goal_honest p (Some x) (Some v) = then_honest (sum_answer x zero_ℚ p.objective) (λ f. and_then (add_answer f p.constant) (λ t. Ok (if is_same v t then Some f else None))) (form_honest x zero_ℚ p.objective) (λ f. then_honest (add_answer f p.constant) (λ t. Ok (if is_same v t then Some f else None)) (add_honest f p.constant) (λ t. tt))

pub value_honest : (p : Problem) (x : Option (List Rational)) (v : Option Rational) → IsHonest (value_answer p x v)
value_honest p x v = then_honest (goal_answer p x v) (λ f. Ok (is_some f)) (goal_honest p x v) (λ f. tt)

-- ---- lists of trials

abbrev pub AreHonest : List Trial → Type 0
AreHonest [] = Unit {0}
AreHonest (t ∷ ts) = IsHonest t.answer × AreHonest ts

pub both_honest : (xs bs : List Trial) → AreHonest xs → AreHonest bs → AreHonest (xs ++ bs)
both_honest [] bs h k = k
both_honest (a ∷ xs) bs h k = (h.0, both_honest xs bs h.1 k)

pub derived_all_honest : (p : Problem) (v : Version) (k : ℕ) (before ds : List Derived) → AreHonest (derived_trials p v k before ds)
derived_all_honest p v k before [] = tt
derived_all_honest p v k before (d ∷ ds) = (derived_honest p v before d, derived_all_honest p v (k + 1) (before ++ d ∷ []) ds)

nodes_honest : (p : Problem) (v : Version) (goal : Option Rational) (ds : List Derived) (k : ℕ) (places : List (List SideOf)) (nodes : List TreeNode) → AreHonest (node_trials p v goal ds k places nodes)
nodes_honest p v goal ds k [] [] = tt
nodes_honest p v goal ds k [] (node ∷ nodes) = (tt, tt)
nodes_honest p v goal ds k (sides ∷ places) [] = (tt, tt)
nodes_honest p v goal ds k (sides ∷ places) (node ∷ nodes) = (node_honest (record { version = v; problem = p; derived = ds; sides = sides }) goal node, nodes_honest p v goal ds (k + 1) (below node sides ++ places) nodes)

tree_honest : (p : Problem) (goal : Option Rational) (c : Certificate) → AreHonest (tree_trials p goal c)
tree_honest p goal c = both_honest (derived_trials p c.version 1 [] c.derived) (node_trials p c.version goal c.derived 1 ([] ∷ []) c.tree) (derived_all_honest p c.version 1 [] c.derived) (nodes_honest p c.version goal c.derived 1 ([] ∷ []) c.tree)

verdict_honest : (p : Problem) (c : Certificate) (v : Verdict) → AreHonest (verdict_trials p c v)
verdict_honest p c Optimal = (point_honest p c.point, (value_honest p c.point c.value, tree_honest p (form_goal p c.value) c))
verdict_honest p c Infeasible = tree_honest p None c
verdict_honest p c Unbounded = (point_honest p c.point, (ray_honest p c.ray, tt))

Admits : Outcome → Type 0
Admits Acceptance = Unit {0}
Admits (Refusal part) = Unit {0}
Admits (Fault part e) = DoesNotFit e

outcome_honest : (xs : List Trial) → AreHonest xs → Admits (outcome xs)
unfolding Admits
outcome_honest [] h = tt
outcome_honest (a ∷ xs) h = go a.answer h.0 (outcome_honest xs h.1)
  where
    go : (r : Result Bool NoFit) → IsHonest r → Admits (outcome xs) → Admits (judged a.part r (outcome xs))
    go (Ok true) e k = k
    go (Ok false) e k = tt
    go (Err d) e k = e

-- so is the fault of what a check answers
pub fault_operation : (xs : List Trial) (r : Result Checked CheckFault) → outcome_of r ≡ outcome xs → AreHonest xs → IfErr r (λ e. DoesNotFit e.fault)
unfolding Admits
fault_operation xs (Ok r) h k = tt
fault_operation xs (Err e) h k = subst Admits (sym h) (outcome_honest xs k)

pub check_operation : (p : Problem) (c : Certificate) (r : Result Checked CheckFault) → outcome_of r ≡ outcome (trials p c) → IfErr r (λ e. DoesNotFit e.fault)
check_operation p c r h = fault_operation (trials p c) r h (tt, verdict_honest p c c.verdict)
