-- Where all operations fit, the answer of each part is its test.
use Rattle.std.proofs.Common.{◌≡◌, ◌↔◌, ◌∙◌, ℕ, ◌&&◌, cond, if◌then◌else◌, Bool, true, false, List, [], ◌∷◌, ◌++◌, length, Option, Some, None, is_some, Result, Ok, Err, IfOk, refl, sym, ap, subst}
use Rattle.std.specs.Prelude.{pos, negsuc, neg_ℤ, ◌+ℤ◌}
use mathlib.Core.Path.{ap₂}
use Rattle.rational.specs.Rational.{Rational, zero_ℚ, whole, ◌+ℚ◌, ◌*ℚ◌, ◌-ℚ◌}
use Rattle.rational.proofs.Laws as Q
use Rattle.rational.proofs.Laws.{value_same, value_self}
use Rattle.milp.specs.Form.{Entry, sum_at}
use Rattle.milp.specs.Problem.{Row, Problem}
use Rattle.milp.specs.Points.{IsImprovingRay, sign_of, objective_value}
use Rattle.fraction.specs.declared.frac.NoFit.{NoFit}
use Rattle.fraction.specs.Answers.{add_answer}
use Rattle.rational.specs.Compare.{is_zero, is_less, is_at_most, is_same}
use Rattle.instance.specs.Sums.{and_then, sum_answer, rows_answer}
use Rattle.instance.proofs.Laws.{sum_fits_ok, and_rest, rows_ok}
use Rattle.verdicts.specs.WeightedSums.{Weighted, scaled, combined, combined_bound, coefficient_of}
use Rattle.verdicts.specs.Certificate.{Version, One, Two, Weights, Side as SideOf, FormSplit, Proof, Plain, BySplit, Derived, TreeNode, Branch, Empty, Bound}
use Rattle.verdicts.specs.Proves.{lies_above, lies_below, bound_for, meets_columns, meets_rows, is_improving_ray, joined, terms, same_form, shows, refutes, in_range, is_whole_form, low_term, high_term, usable, narrowed, taken, proof_passes, derived_passes, bound_passes, node_passes, point_passes, value_passes, ray_passes}
use Rattle.verdicts.proofs.Laws.{coefficient-scaled, coefficient-combined}
use Rattle.cert_check.specs.Setting.{Setting}
use Rattle.cert_check.specs.Sums.{and_also, with_product, next_answer, all_there, bound_sum, Product, weight_products, are_forms}
use Rattle.cert_check.specs.Parts.{point_answer, form_value_answer, value_answer, ray_rows_answer, is_improving_answer, ray_answer, shown_answer, proof_setting, side_weights, side_products, side_bound, side_answer, proof_answer, derived_answer, bound_answer, node_answer}
use Rattle.cert_check.specs.Outcome.{form_goal}
use Rattle.certificate.specs.declared.split.Side.{Side}
use Rattle.certificate.specs.declared.split.Side.TheVariants.{Low, High}
use Rattle.cert_check.proofs.Exact.{ok_then, also_ok, also_true, also_false, if_ok, add_ok, product_ok, next_ok, all_there_ok, bound_sum_ok, product_sum, sum-append, sum-products, weights_sum, forms_ok}

-- ---- weights

-- the terms that weights name
abbrev terms_of : Setting → Weights → Option (List Weighted)
terms_of s w = terms s.problem s.derived (narrowed s.version s.sides) (taken s.version s.sides) w

-- the test of weights: their terms are there, F is the form, and R is enough
abbrev judge : ℕ → Option (List Weighted) → List Entry → (Rational → Bool) → Bool
judge n None form enough = false
judge n (Some ts) form enough = same_form n (combined ts) form && enough (combined_bound ts)

shows_is : (n : ℕ) (o : Option (List Weighted)) (form : List Entry) (bound : Rational) → judge n o form (is_at_most bound) ≡ shows n o form bound
shows_is n None form bound = refl
shows_is n (Some ts) form bound = refl

refutes_is : (n : ℕ) (o : Option (List Weighted)) → judge n o [] (is_less zero_ℚ) ≡ refutes n o
refutes_is n None = refl
refutes_is n (Some ts) = refl

shown_ok : (s : Setting) (w : Weights) (wanted : ℕ → Rational) (form : List Entry) (enough : Rational → Bool) → ((j : ℕ) → wanted j ≡ coefficient_of form j) → IfOk (shown_answer s w wanted enough) (λ b. b ≡ judge (length s.problem.columns) (terms_of s w) form enough)
shown_ok s w wanted form enough k = go (terms_of s w) refl (all_there_ok s w)
  where
    rest : Result Bool NoFit
    rest = and_also (are_forms (weight_products s w) wanted 0 s.problem.columns) (and_then (bound_sum s zero_ℚ w) (λ r. Ok (enough r)))

    go : (o : Option (List Weighted)) → terms_of s w ≡ o → IfOk (all_there s w) (λ b. b ≡ is_some o) → IfOk (and_also (all_there s w) rest) (λ b. b ≡ judge (length s.problem.columns) o form enough)
    go None e h = also_false (all_there s w) rest h
    go (Some ts) e h =
        also_true (all_there s w) rest (λ b. b ≡ judge (length s.problem.columns) (Some ts) form enough) h
        (also_ok (are_forms (weight_products s w) wanted 0 s.problem.columns) (and_then (bound_sum s zero_ℚ w) (λ r. Ok (enough r))) (same_form (length s.problem.columns) (combined ts) form) (enough (combined_bound ts))
        (forms_ok (weight_products s w) wanted s.problem.columns (combined ts) form (λ j. weights_sum s w ts j e) k)
        (λ same. ok_then (bound_sum s zero_ℚ w) (λ r. Ok (enough r)) (λ r. r ≡ zero_ℚ +ℚ combined_bound ts) (λ b. b ≡ enough (combined_bound ts)) (bound_sum_ok s w ts zero_ℚ e) (λ r er. ap enough (er ∙ Q.zero-add (combined_bound ts)))))

-- ---- a side of a split

side_term : FormSplit → Side → Weighted
side_term s Low = low_term s
side_term s High = high_term s

side_sum : (s : FormSplit) (side : Side) (j : ℕ) → product_sum (side_products s side j) ≡ (side_term s side).weight *ℚ coefficient_of (side_term s side).form j
unfolding side_term
side_sum s Low j = sum-products s.low (scaled (whole (negsuc 0)) s.form) j
side_sum s High j = sum-products s.high s.form j

side_bound_ok : (s : FormSplit) (side : Side) → IfOk (side_bound s side) (λ v. v ≡ zero_ℚ +ℚ (side_term s side).weight *ℚ (side_term s side).bound)
unfolding side_term
side_bound_ok s Low = product_ok zero_ℚ s.low (whole (neg_ℤ s.at))
side_bound_ok s High = go (is_zero s.high) refl
  where
    go : (t : Bool) → is_zero s.high ≡ t → IfOk (if t then Ok zero_ℚ else and_then (next_answer s.at) (λ b. with_product zero_ℚ s.high b)) (λ v. v ≡ zero_ℚ +ℚ s.high *ℚ whole (s.at +ℤ pos 1))
    go true e = sym (Q.zero-add (s.high *ℚ whole (s.at +ℤ pos 1)) ∙ ap (λ z. z *ℚ whole (s.at +ℤ pos 1)) (Q.zero_true s.high e) ∙ Q.zero-mul (whole (s.at +ℤ pos 1)))
    go false e = ok_then (next_answer s.at) (λ b. with_product zero_ℚ s.high b) (λ b. b ≡ whole (s.at +ℤ pos 1)) (λ v. v ≡ zero_ℚ +ℚ s.high *ℚ whole (s.at +ℤ pos 1)) (next_ok s.at)
        (λ b eb. if_ok (with_product zero_ℚ s.high b) (zero_ℚ +ℚ s.high *ℚ b) (zero_ℚ +ℚ s.high *ℚ whole (s.at +ℤ pos 1)) (product_ok zero_ℚ s.high b) (ap (λ b. zero_ℚ +ℚ s.high *ℚ b) eb))

side_ok : (st : Setting) (s : FormSplit) (side : Side) (form : List Entry) (bound : Rational) → IfOk (side_answer st s side form bound) (λ b. b ≡ shows (length st.problem.columns) (joined (Some (side_term s side)) (terms_of st (side_weights s side))) form bound)
side_ok st s side form bound = go (terms_of st (side_weights s side)) refl (all_there_ok st (side_weights s side))
  where
    f : ℕ → List Product
    f j = side_products s side j ++ weight_products st (side_weights s side) j

    last : Result Bool NoFit
    last = and_then (side_bound s side) (λ t. and_then (bound_sum st t (side_weights s side)) (λ r. Ok (is_at_most bound r)))

    rest : Result Bool NoFit
    rest = and_also (are_forms (λ j. side_products s side j ++ weight_products st (side_weights s side) j) (coefficient_of form) 0 st.problem.columns) (and_then (side_bound s side) (λ t. and_then (bound_sum st t (side_weights s side)) (λ r. Ok (is_at_most bound r))))

    go : (o : Option (List Weighted)) → terms_of st (side_weights s side) ≡ o → IfOk (all_there st (side_weights s side)) (λ b. b ≡ is_some o) → IfOk (and_also (all_there st (side_weights s side)) rest) (λ b. b ≡ shows (length st.problem.columns) (joined (Some (side_term s side)) o) form bound)
    go None e h = also_false (all_there st (side_weights s side)) rest h
    go (Some ts) e h =
        let t : Weighted = side_term s side in
        let all : List Weighted = t ∷ ts in
        let sums : (j : ℕ) → product_sum (f j) ≡ coefficient_of (combined all) j = λ j. sum-append (side_products s side j) (weight_products st (side_weights s side) j) ∙ ap₂ (λ a b. a +ℚ b) (side_sum s side j) (weights_sum st (side_weights s side) ts j e) ∙ sym (coefficient-combined t ts j) in
        also_true (all_there st (side_weights s side)) rest (λ b. b ≡ shows (length st.problem.columns) (Some all) form bound) h
        (also_ok (are_forms f (coefficient_of form) 0 st.problem.columns) last (same_form (length st.problem.columns) (combined all) form) (is_at_most bound (combined_bound all))
        (forms_ok f (coefficient_of form) st.problem.columns (combined all) form sums (λ j. refl))
        (λ same. ok_then (side_bound s side) (λ t. and_then (bound_sum st t (side_weights s side)) (λ r. Ok (is_at_most bound r))) (λ v. v ≡ zero_ℚ +ℚ t.weight *ℚ t.bound) (λ b. b ≡ is_at_most bound (combined_bound all)) (side_bound_ok s side)
        (λ v ev. ok_then (bound_sum st v (side_weights s side)) (λ r. Ok (is_at_most bound r)) (λ r. r ≡ v +ℚ combined_bound ts) (λ b. b ≡ is_at_most bound (combined_bound all)) (bound_sum_ok st (side_weights s side) ts v e)
        (λ r er. ap (is_at_most bound) (er ∙ ap (λ z. z +ℚ combined_bound ts) (ev ∙ Q.zero-add (t.weight *ℚ t.bound)))))))

-- ---- derived rows

first_ok : (b c : Bool) (rest : Result Bool NoFit) → (b ≡ true → IfOk rest (λ x. x ≡ c)) → IfOk (and_also (Ok b) rest) (λ x. x ≡ (b && c))
first_ok true c rest k = k refl
first_ok false c rest k = refl

-- in a proof no split is taken
no_sides : (p : Problem) (v : Version) (before : List Derived) (w : Weights) → terms_of (proof_setting p v before) w ≡ terms p (usable v before) [] [] w
no_sides p One before w = refl
no_sides p Two before w = refl

split_side_ok : (p : Problem) (v : Version) (before : List Derived) (s : FormSplit) (side : Side) (form : List Entry) (bound : Rational) → IfOk (side_answer (proof_setting p v before) s side form bound) (λ b. b ≡ shows (length p.columns) (joined (Some (side_term s side)) (terms p (usable v before) [] [] (side_weights s side))) form bound)
split_side_ok p v before s side form bound =
    if_ok (side_answer (proof_setting p v before) s side form bound) _ _ (side_ok (proof_setting p v before) s side form bound) (ap (λ ts. shows (length p.columns) (joined (Some (side_term s side)) ts) form bound) (no_sides p v before (side_weights s side)))

proof_ok : (p : Problem) (v : Version) (before : List Derived) (form : List Entry) (bound : Rational) (proof : Proof) → IfOk (proof_answer (proof_setting p v before) form bound proof) (λ b. b ≡ proof_passes p (usable v before) form bound proof)
unfolding side_term
proof_ok p v before form bound (Plain w) =
    let st : Setting = proof_setting p v before in
    if_ok (shown_answer st w (coefficient_of form) (is_at_most bound)) _ _ (shown_ok st w (coefficient_of form) form (is_at_most bound) (λ j. refl)) (shows_is (length p.columns) (terms_of st w) form bound ∙ ap (λ ts. shows (length p.columns) ts form bound) (no_sides p v before w))
proof_ok p v before form bound (BySplit s) =
    first_ok (is_whole_form p s.form && (is_at_most zero_ℚ s.low && is_at_most zero_ℚ s.high)) _ _ (λ h. also_ok _ _ _ _ (split_side_ok p v before s Low form bound) (λ k. split_side_ok p v before s High form bound))

pub derived_ok : (p : Problem) (v : Version) (before : List Derived) (d : Derived) → IfOk (derived_answer p v before d) (λ b. b ≡ derived_passes p (usable v before) d)
derived_ok p v before d = also_ok (Ok (in_range (length p.columns) d.form)) (proof_answer (proof_setting p v before) d.form d.bound d.proof) (in_range (length p.columns) d.form) (proof_passes p (usable v before) d.form d.bound d.proof) refl (λ h. proof_ok p v before d.form d.bound d.proof)

-- ---- nodes

bound_ok : (s : Setting) (goal : Option Rational) (w : Weights) → IfOk (bound_answer s (form_goal s.problem goal) w) (λ b. b ≡ bound_passes s.problem goal (terms_of s w))
bound_ok s None w = refl
bound_ok s (Some v) w =
    let p = s.problem in
    let needed : Rational = sign_of p.direction *ℚ (v -ℚ p.constant) in
    if_ok (bound_answer s (Some (v -ℚ p.constant)) w) _ _ (shown_ok s w (λ j. sign_of p.direction *ℚ coefficient_of p.objective j) (scaled (sign_of p.direction) p.objective) (is_at_most needed) (λ j. sym (coefficient-scaled (sign_of p.direction) p.objective j))) (shows_is (length p.columns) (terms_of s w) (scaled (sign_of p.direction) p.objective) needed)

pub node_ok : (p : Problem) (v : Version) (goal : Option Rational) (ds : List Derived) (sides : List SideOf) (node : TreeNode) → IfOk (node_answer (record { version = v; problem = p; derived = ds; sides = sides }) (form_goal p goal) node) (λ b. b ≡ node_passes p v goal ds sides node)
node_ok p v goal ds sides (Branch b) = refl
node_ok p v goal ds sides (Empty w) =
    let s : Setting = record { version = v; problem = p; derived = ds; sides = sides } in
    if_ok (shown_answer s w (λ j. zero_ℚ) (is_less zero_ℚ)) _ _ (shown_ok s w (λ j. zero_ℚ) [] (is_less zero_ℚ) (λ j. refl)) (refutes_is (length p.columns) (terms_of s w))
node_ok p v goal ds sides (Bound w) = bound_ok (record { version = v; problem = p; derived = ds; sides = sides }) goal w

-- ---- points and rays

ray_rows_ok : (x : List Rational) (rows : List Row) → IfOk (ray_rows_answer x rows) (λ b. b ≡ meets_rows true rows x)
ray_rows_ok x [] = refl
ray_rows_ok x (r ∷ rs) =
    let met : Rational → Bool = λ v. lies_above (bound_for true r.lower) v && lies_below (bound_for true r.upper) v in
    ok_then (sum_answer x zero_ℚ r.entries) (λ v. cond (met v) (ray_rows_answer x rs) (Ok false)) (λ v. v ≡ sum_at x r.entries) (λ b. b ≡ meets_rows true (r ∷ rs) x) (sum_fits_ok x r.entries)
    (λ v e. if_ok (cond (met v) (ray_rows_answer x rs) (Ok false)) (met v && meets_rows true rs x) (met (sum_at x r.entries) && meets_rows true rs x) (and_rest (met v) (meets_rows true rs x) (ray_rows_answer x rs) (ray_rows_ok x rs)) (ap (λ v. met v && meets_rows true rs x) e))

pub point_ok : (p : Problem) (x : Option (List Rational)) → IfOk (point_answer p x) (λ b. b ≡ point_passes p x)
point_ok p None = refl
point_ok p (Some x) = and_rest (meets_columns false p.columns x) (meets_rows false p.rows x) (rows_answer x p.rows) (rows_ok x p.rows)

improving_ok : (p : Problem) (x : List Rational) → IfOk (is_improving_answer p x) (λ b. b ≡ is_improving_ray p x)
improving_ok p x =
    let improves : Rational → Bool = λ v. is_less (sign_of p.direction *ℚ v) zero_ℚ in
    let slope : IfOk (and_then (sum_answer x zero_ℚ p.objective) (λ v. Ok (improves v))) (λ b. b ≡ improves (sum_at x p.objective)) = ok_then (sum_answer x zero_ℚ p.objective) (λ v. Ok (improves v)) (λ v. v ≡ sum_at x p.objective) (λ b. b ≡ improves (sum_at x p.objective)) (sum_fits_ok x p.objective) (λ v e. ap improves e) in
    if_ok (is_improving_answer p x) _ _ (first_ok (meets_columns true p.columns x) (meets_rows true p.rows x && improves (sum_at x p.objective)) _ (λ h. also_ok _ _ (meets_rows true p.rows x) (improves (sum_at x p.objective)) (ray_rows_ok x p.rows) (λ k. slope))) (grouped (meets_columns true p.columns x) (meets_rows true p.rows x) (improves (sum_at x p.objective)))
  where
    grouped : (a b c : Bool) → (a && (b && c)) ≡ ((a && b) && c)
    grouped true b c = refl
    grouped false b c = refl

pub ray_ok : (p : Problem) (x : Option (List Rational)) → IfOk (ray_answer p x) (λ b. b ≡ ray_passes p x)
ray_ok p None = refl
ray_ok p (Some x) = improving_ok p x

-- where the test of a ray holds, it improves
pub ray_shown : (p : Problem) (x : List Rational) (r : Result Bool NoFit) → r ≡ ray_answer p (Some x) → (is_improving_ray p x ≡ true) ↔ IsImprovingRay p x → IfOk r (λ b. b ≡ true → IsImprovingRay p x)
ray_shown p x r e exact = subst (λ (a : Result Bool NoFit). IfOk a (λ b. b ≡ true → IsImprovingRay p x)) (sym e) (go (ray_answer p (Some x)) (ray_ok p (Some x)))
  where
    go : (a : Result Bool NoFit) → IfOk a (λ b. b ≡ is_improving_ray p x) → IfOk a (λ b. b ≡ true → IsImprovingRay p x)
    go (Ok b) h = λ t. exact.0 (sym h ∙ t)
    go (Err f) h = tt

pub value_ok : (p : Problem) (x : Option (List Rational)) (v : Option Rational) → IfOk (value_answer p x v) (λ b. b ≡ value_passes p x v)
value_ok p None v = refl
value_ok p (Some x) None = refl
value_ok p (Some x) (Some v) =
    ok_then (form_value_answer p x v) (λ f. Ok (is_some f)) (λ o. is_some o ≡ is_same v (objective_value p x)) (λ b. b ≡ is_same v (objective_value p x))
    (ok_then (sum_answer x zero_ℚ p.objective) (λ f. and_then (add_answer f p.constant) (λ t. Ok (if is_same v t then Some f else None))) (λ f. f ≡ sum_at x p.objective) (λ o. is_some o ≡ is_same v (objective_value p x)) (sum_fits_ok x p.objective)
    (λ f ef. ok_then (add_answer f p.constant) (λ t. Ok (if is_same v t then Some f else None)) (λ t. t ≡ f +ℚ p.constant) (λ o. is_some o ≡ is_same v (objective_value p x)) (add_ok f p.constant)
    (λ t et. picked f (is_same v t) ∙ ap (is_same v) (et ∙ ap (λ z. z +ℚ p.constant) ef))))
    (λ o e. e)
  where
    picked : (f : Rational) (b : Bool) → is_some (if b then Some f else None) ≡ b
    picked f true = refl
    picked f false = refl
