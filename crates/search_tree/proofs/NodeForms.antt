-- Where the sums along the rows and the objective, at a point or ray of a node's run, have their faults.
use Rattle.std.proofs.Common.{◌≡◌, ◌∙◌, ℕ, suc, inl, ◌&&◌, List, [], ◌∷◌, length, map, slice_get, true, false, cond, Option, Some, None, IfSome, Result, Ok, Err, IfOk, refl, sym, ap, subst}
use Rattle.std.specs.Prelude.{option_map}
use mathlib.Core.Path.{ap₂}
use Rattle.std.proofs.lemmas.Option.{slice_get_within}
use Rattle.rational.specs.Rational.{Rational, zero_ℚ, ◌*ℚ◌}
use Rattle.milp.specs.Form.{Entry, number_at}
use Rattle.milp.specs.Problem.{Row, Problem}
use Rattle.milp.specs.Points.{sign_of}
use Rattle.fraction.specs.declared.frac.NoFit.{NoFit}
use Rattle.fraction.specs.Answers.{add_answer}
use Rattle.instance.specs.Sums.{and_then, step_answer, sum_answer, value_answer, rows_answer, meets_answer}
use Rattle.verdicts.specs.Certificate.{Side, Derived}
use Rattle.verdicts.specs.WeightedSums.{AllBelow}
use Rattle.rational.specs.Compare.{is_less}
use Rattle.verdicts.specs.Proves.{lies_above, lies_below, bound_for, meets_columns}
use Rattle.basis.specs.Node.{system_of, integer_at, IsOverColumns}
use Rattle.basis.specs.Weights.{numbers_from}
use Rattle.basis.specs.Numbers.{IsSitePair, right_base, sum_onto, IsPointOrRay, products_of, IsRunProducts, IsNodeBase, IsNodeProducts, node_numbers, AllOf}
use Rattle.basis.proofs.Laws.{numbers-below, row_form}
use Rattle.cert_check.specs.Sums.{Product, with_products}
use Rattle.cert_check.specs.Parts as C
use Rattle.search_tree.proofs.FaultsTold.{Told, then_told, next_told, also_told, cond_told, add_told, whole_sum, Thinned, AreBase, all_told, products_sum}
use Rattle.search_tree.proofs.NodeNumbers.{AreCoefficients, row_coefficients, objective_coefficients, constant_base, number_base}

-- x is, on the columns, a point or ray of the node's run, and its numbers are base numbers
pub record IsOfRun (p : Problem) (ds : List Derived) (sides : List Side) (x : List Rational) : Type 0 where
  pub values : ℕ → Rational
  pub same : x ≡ numbers_from 0 (length p.columns) values
  pub is_of_run : IsPointOrRay (system_of p ds sides) (integer_at p) values
  pub base : AllOf (IsNodeBase p ds sides) x

-- ---- one form

abbrev form_products : List Rational → List Entry → List Product
form_products x [] = []
form_products x (e ∷ es) = record { weight = e.coefficient; factor = number_at x e.column } ∷ form_products x es

sum_is : (x : List Rational) (total : Rational) (es : List Entry) → sum_answer x total es ≡ with_products total (form_products x es)
sum_is x total [] = refl
sum_is x total (e ∷ es) = go (step_answer x total e) (λ t. sum_is x t es)
  where
    go : (r : Result Rational NoFit) → ((t : Rational) → sum_answer x t es ≡ with_products t (form_products x es)) → and_then r (λ s. sum_answer x s es) ≡ and_then r (λ t. with_products t (form_products x es))
    go (Ok t) h = h t
    go (Err e) h = refl

form_thin : (n : ℕ) (x : List Rational) (values : ℕ → Rational) (es : List Entry) → x ≡ numbers_from 0 n values → AllBelow n es → Thinned (form_products x es) (products_of es values)
form_thin n x values [] e h = tt
form_thin n x values (f ∷ es) e h =
    inl (ap (λ (v : Rational). f.coefficient *ℚ v) (ap (λ (y : List Rational). number_at y f.column) e ∙ numbers-below n values f.column h.0), form_thin n x values es e h.1)

form_values : (n : ℕ) (x : List Rational) (values : ℕ → Rational) (es : List Entry) → x ≡ numbers_from 0 n values → AllBelow n es → map (λ (q : Product). q.weight *ℚ q.factor) (form_products x es) ≡ products_of es values
form_values n x values [] e h = refl
form_values n x values (f ∷ es) e h =
    ap₂ (λ (v : Rational) (vs : List Rational). v ∷ vs)
    (ap (λ (v : Rational). f.coefficient *ℚ v) (ap (λ (y : List Rational). number_at y f.column) e ∙ numbers-below n values f.column h.0)) (form_values n x values es e h.1)

form_base : (p : Problem) (ds : List Derived) (sides : List Side) (x : List Rational) (es : List Entry) → AllOf (IsNodeBase p ds sides) x → AreCoefficients p ds sides es → AreBase (node_numbers p ds sides) (form_products x es)
form_base p ds sides x [] h k = tt
form_base p ds sides x (e ∷ es) h k = ((k.0, number_base p ds sides x h e.column), form_base p ds sides x es h k.1)

form_told : (p : Problem) (ds : List Derived) (sides : List Side) (x : List Rational) (es : List Entry) (run : IsOfRun p ds sides x) → AllBelow (length p.columns) es → AreCoefficients p ds sides es → IsNodeProducts p ds sides (products_of es run.values) → Told (node_numbers p ds sides) (sum_answer x zero_ℚ es)
form_told p ds sides x es run below base products =
    let P : Result Rational NoFit → Type 0 = Told (node_numbers p ds sides) in
    subst P (sym (sum_is x zero_ℚ es))
    (all_told (node_numbers p ds sides) (products_of es run.values) products (form_products x es) (form_thin (length p.columns) x run.values es run.same below) (form_base p ds sides x es run.base base))

form_sum : (p : Problem) (ds : List Derived) (sides : List Side) (x : List Rational) (es : List Entry) (run : IsOfRun p ds sides x) → AllBelow (length p.columns) es → IfOk (sum_answer x zero_ℚ es) (λ v. v ≡ sum_onto zero_ℚ (products_of es run.values))
form_sum p ds sides x es run below =
    let P : Result Rational NoFit → Type 0 = λ r. IfOk r (λ v. v ≡ sum_onto zero_ℚ (products_of es run.values)) in
    let R : List Rational → Type 0 = λ vs. IfOk (with_products zero_ℚ (form_products x es)) (λ v. v ≡ sum_onto zero_ℚ vs) in
    subst P (sym (sum_is x zero_ℚ es)) (subst R (form_values (length p.columns) x run.values es run.same below) (products_sum zero_ℚ (form_products x es)))

-- ---- rows

some_form : (p : Problem) (ds : List Derived) (sides : List Side) (i : ℕ) (r : Row) → slice_get p.rows i ≡ Some r → slice_get ((system_of p ds sides).forms) i ≡ Some r.entries
some_form p ds sides i r at = row_form p ds sides i (slice_get_within p.rows i r at) ∙ ap (option_map (λ (r : Row). r.entries)) at

some_below : (n : ℕ) (o : Option Row) (r : Row) → IfSome o (λ r. AllBelow n r.entries) → o ≡ Some r → AllBelow n r.entries
some_below n (Some s) r h e = let same : s ≡ r = cc in subst (λ (t : Row). AllBelow n t.entries) same h
some_below n None r h e = absurd cc

row_told : (p : Problem) (ds : List Derived) (sides : List Side) (x : List Rational) (i : ℕ) (r : Row) → IsOverColumns p ds sides → IsOfRun p ds sides x → slice_get p.rows i ≡ Some r → Told (node_numbers p ds sides) (sum_answer x zero_ℚ r.entries)
row_told p ds sides x i r over run at =
    form_told p ds sides x r.entries run (some_below (length p.columns) (slice_get p.rows i) r (over.rows i) at) (row_coefficients p ds sides i r at)
    (IsNodeProducts.of_run (IsRunProducts.along_form i r.entries run.values (some_form p ds sides i r at) run.is_of_run refl))

-- each of the rows is told
abbrev AreRowsTold : Problem → List Derived → List Side → List Rational → List Row → Type 0
AreRowsTold p ds sides x [] = Unit {0}
AreRowsTold p ds sides x (r ∷ rs) = Told (node_numbers p ds sides) (sum_answer x zero_ℚ r.entries) × AreRowsTold p ds sides x rs

each_row : (p : Problem) (ds : List Derived) (sides : List Side) (x : List Rational) (rows : List Row) → ((i : ℕ) (r : Row) → slice_get rows i ≡ Some r → Told (node_numbers p ds sides) (sum_answer x zero_ℚ r.entries)) → AreRowsTold p ds sides x rows
each_row p ds sides x [] h = tt
each_row p ds sides x (r ∷ rs) h = (h 0 r refl, each_row p ds sides x rs (λ i s at. h (suc i) s at))

rows_told : (p : Problem) (ds : List Derived) (sides : List Side) (x : List Rational) (rows : List Row) → AreRowsTold p ds sides x rows → Told (node_numbers p ds sides) (rows_answer x rows)
rows_told p ds sides x [] h = tt
rows_told p ds sides x (r ∷ rs) h =
    next_told (node_numbers p ds sides) (sum_answer x zero_ℚ r.entries) (λ v. cond (lies_above r.lower v && lies_below r.upper v) (rows_answer x rs) (Ok false)) h.0
    (λ v. cond_told (node_numbers p ds sides) (lies_above r.lower v && lies_below r.upper v) (rows_answer x rs) (Ok false) (rows_told p ds sides x rs h.1) tt)

ray_rows_told : (p : Problem) (ds : List Derived) (sides : List Side) (x : List Rational) (rows : List Row) → AreRowsTold p ds sides x rows → Told (node_numbers p ds sides) (C.ray_rows_answer x rows)
ray_rows_told p ds sides x [] h = tt
ray_rows_told p ds sides x (r ∷ rs) h =
    next_told (node_numbers p ds sides) (sum_answer x zero_ℚ r.entries) (λ v. cond (lies_above (bound_for true r.lower) v && lies_below (bound_for true r.upper) v) (C.ray_rows_answer x rs) (Ok false)) h.0
    (λ v. cond_told (node_numbers p ds sides) (lies_above (bound_for true r.lower) v && lies_below (bound_for true r.upper) v) (C.ray_rows_answer x rs) (Ok false) (ray_rows_told p ds sides x rs h.1) tt)

pub point_told : (p : Problem) (ds : List Derived) (sides : List Side) (x : List Rational) → IsOverColumns p ds sides → IsOfRun p ds sides x → Told (node_numbers p ds sides) (meets_answer p x)
point_told p ds sides x over run =
    cond_told (node_numbers p ds sides) (meets_columns false p.columns x) (rows_answer x p.rows) (Ok false) (rows_told p ds sides x p.rows (each_row p ds sides x p.rows (λ i r at. row_told p ds sides x i r over run at))) tt

-- ---- the objective

objective_told : (p : Problem) (ds : List Derived) (sides : List Side) (x : List Rational) → IsOverColumns p ds sides → IsOfRun p ds sides x → Told (node_numbers p ds sides) (sum_answer x zero_ℚ p.objective)
objective_told p ds sides x over run = form_told p ds sides x p.objective run over.objective (objective_coefficients p ds sides) (IsNodeProducts.along_objective run.values run.is_of_run refl)

-- the constant is added to the whole sum
constant_told : (p : Problem) (ds : List Derived) (sides : List Side) (x : List Rational) (run : IsOfRun p ds sides x) (v : Rational) → v ≡ sum_onto zero_ℚ (products_of p.objective run.values) → Told (node_numbers p ds sides) (add_answer v p.constant)
constant_told p ds sides x run v e =
    let P : Rational → Type 0 = λ u. IsSitePair (node_numbers p ds sides) u p.constant in
    add_told (node_numbers p ds sides) v p.constant
    (subst P (sym e) (right_base (whole_sum (node_numbers p ds sides) (products_of p.objective run.values) (IsNodeProducts.along_objective run.values run.is_of_run refl)) (constant_base p ds sides)))

pub value_told : (p : Problem) (ds : List Derived) (sides : List Side) (x : List Rational) → IsOverColumns p ds sides → IsOfRun p ds sides x → Told (node_numbers p ds sides) (value_answer p x)
value_told p ds sides x over run =
    then_told (node_numbers p ds sides) (sum_answer x zero_ℚ p.objective) (λ v. add_answer v p.constant) (λ v. v ≡ sum_onto zero_ℚ (products_of p.objective run.values)) (objective_told p ds sides x over run)
    (form_sum p ds sides x p.objective run over.objective) (λ v e. constant_told p ds sides x run v e)

pub ray_told : (p : Problem) (ds : List Derived) (sides : List Side) (x : List Rational) → IsOverColumns p ds sides → IsOfRun p ds sides x → Told (node_numbers p ds sides) (C.ray_answer p (Some x))
ray_told p ds sides x over run =
    also_told (node_numbers p ds sides) (Ok (meets_columns true p.columns x)) _ tt
    (λ e. also_told (node_numbers p ds sides) (C.ray_rows_answer x p.rows) _ (ray_rows_told p ds sides x p.rows (each_row p ds sides x p.rows (λ i r at. row_told p ds sides x i r over run at)))
    (λ f. next_told (node_numbers p ds sides) (sum_answer x zero_ℚ p.objective) (λ v. Ok (is_less (sign_of p.direction *ℚ v) zero_ℚ)) (objective_told p ds sides x over run) (λ v. tt)))
