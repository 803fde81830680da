-- Which numbers of a relaxation are base numbers of its node.
use Rattle.std.proofs.Common.{◌≡◌, ℕ, zero, suc, ◌+◌, ◌<◌, ◌≤◌, List, [], ◌∷◌, ◌++◌, length, refl, sym, subst, arith, inl, inr, ◌⊎◌, cond, ◌==◌, Bool, true, false}
use Rattle.std.specs.Prelude.{pos, negsuc}
use Rattle.rational.specs.Rational.{Rational, one_ℚ, neg_ℚ, whole}
use Rattle.milp.specs.Problem.{Problem}
use Rattle.verdicts.specs.Certificate.{Item, Weights, Side, Derived}
use Rattle.rational.proofs.Laws.{neg_whole}
use Rattle.rational.proofs.Laws as Q
use Rattle.basis.specs.System.{System, size}
use Rattle.basis.specs.Dictionary.{IsBasic, Dictionary, IsDictionary, rate_of, gain_of}
use Rattle.basis.specs.Bland.{IsRun, IsHeading}
use Rattle.basis.specs.Node.{system_of, integer_at}
use Rattle.basis.specs.Weights.{items_at, items_of, weights_of, nonzero, optimal_weights, row_weight, contradiction_weights, numbers_from, made_whole}
use Rattle.basis.specs.Relaxation.{IsOptimalRelaxation, IsInfeasibleRelaxation, contradiction, blocked, blocking_weights, IsUnboundedRelaxation}
use Rattle.basis.specs.Numbers.{Numbers, IsSiteNumber, base_number, sum, difference, quotient, product, sum_of_products, denominator, reciprocal, IsSitePair, left_base, right_base, next_product, next_denominator, AreNumbersWithin, IsCoefficient, of_row, of_objective, IsRunBase, one_number, minus_one, coefficient, minus_coefficient, coordinate, of_ray, run_numbers, IsNodeBase, IsNodeProducts, node_numbers, AllOf, AllWeights, AreNodeWeights}
use Rattle.basis.specs.declared.Place.{Place}
use Rattle.basis.specs.declared.Place.TheVariants.{Basic, AtLower, AtUpper, AtZero}
use Rattle.basis.proofs.NodeSystems.{node_size}
use Rattle.basis.proofs.Order.{nonzero_cases}

-- ---- more base numbers make more site numbers

pub site_within : (ns ms : Numbers) → AreNumbersWithin ns ms → (a : Rational) → IsSiteNumber ns a → IsSiteNumber ms a
site_within ns ms w a (base_number h) = base_number (w.base a h)
site_within ns ms w a (sum c d h k e) = sum c d (w.base c h) (w.base d k) e
site_within ns ms w a (difference c d h k e) = difference c d (w.base c h) (w.base d k) e
site_within ns ms w a (quotient c d h k e) = quotient c d (w.base c h) (w.base d k) e
site_within ns ms w a (product c d h k e) = product c d (w.base c h) (w.base d k) e
site_within ns ms w a (sum_of_products xs n h e) = sum_of_products xs n (w.products xs h) e
site_within ns ms w a (denominator xs n h e) = denominator xs n (w.made_common xs h) e
site_within ns ms w a (reciprocal xs n h e) = reciprocal xs n (w.made_common xs h) e

pub pair_within : (ns ms : Numbers) → AreNumbersWithin ns ms → (a b : Rational) → IsSitePair ns a b → IsSitePair ms a b
pair_within ns ms w a b (left_base h k) = left_base (w.base a h) (site_within ns ms w b k)
pair_within ns ms w a b (right_base h k) = right_base (site_within ns ms w a h) (w.base b k)
pair_within ns ms w a b (next_product xs n h e g) = next_product xs n (w.products xs h) e g
pair_within ns ms w a b (next_denominator xs n c h e g f) = next_denominator xs n c (w.made_common xs h) e g f

pub run_within_node : (p : Problem) (ds : List Derived) (sides : List Side) → AreNumbersWithin (run_numbers (system_of p ds sides) (integer_at p)) (node_numbers p ds sides)
run_within_node p ds sides = record { base = λ a h. IsNodeBase.of_run h; products = λ xs h. IsNodeProducts.of_run h; made_common = λ xs h. h }

-- ---- points

all_numbers : (P : Rational → Type 0) (i count : ℕ) (f : ℕ → Rational) (limit : ℕ) → i + count ≤ limit → ((v : ℕ) → v < limit → P (f v)) → AllOf P (numbers_from i count f)
all_numbers P i zero f limit l h = tt
all_numbers P i (suc count) f limit l h = (h i (omega arith), all_numbers P (suc i) count f limit (omega arith) h)

columns_known : (p : Problem) (ds : List Derived) (sides : List Side) (v : ℕ) → v < length p.columns → v < size (system_of p ds sides)
columns_known p ds sides v h = let z = node_size p ds sides in omega arith

pub optimal_point_base : (p : Problem) (ds : List Derived) (sides : List Side) (x : List Rational) (w : Weights) (b : List Place) (d : Dictionary) → IsOptimalRelaxation p ds sides x w b d → AllOf (IsNodeBase p ds sides) x
optimal_point_base p ds sides x w b d h =
    let P : List Rational → Type 0 = AllOf (IsNodeBase p ds sides) in
    subst P (sym h.point) (all_numbers (IsNodeBase p ds sides) 0 (length p.columns) h.values (length p.columns) (omega arith)
    (λ v k. IsNodeBase.of_run (coordinate (record { point = h.values; is_point = record { basis = b; before = h.is_optimal.before; is_run = h.is_optimal.is_run; is_point = h.is_optimal.is_point }; variable = v; known = columns_known p ds sides v k; same = refl }))))

-- ---- weights

items_at_base : (P : Rational → Type 0) (i : ℕ) (ws : List Rational) → AllOf P ws → AllWeights P (items_at i ws)
items_at_base P i [] h = tt
items_at_base P i (w ∷ ws) h = (h.0, items_at_base P i ws h.1)

append_base : (P : Rational → Type 0) (a b : List Item) → AllWeights P a → AllWeights P b → AllWeights P (a ++ b)
append_base P [] b h k = k
append_base P (i ∷ a) b h k = (h.0, append_base P a b h.1 k)

pub items_base : (P : Rational → Type 0) (f : ℕ → List Rational) (first i count : ℕ) → ((v : ℕ) → AllOf P (f v)) → AllWeights P (items_of f first i count)
items_base P f first i zero h = tt
items_base P f first i (suc count) h = append_base P (items_at i (f first)) (items_of f (suc first) (suc i) count) (items_at_base P i (f first) (h first)) (items_base P f (suc first) (suc i) count h)

nonzero_base : (P : Rational → Type 0) (a : Rational) → P a → AllOf P (nonzero a)
nonzero_base P a h = nonzero_cases a (λ e z. subst (AllOf P) (sym e) tt) (λ e n. subst (AllOf P) (sym e) (h, tt))

pub weights_base : (p : Problem) (ds : List Derived) (sides : List Side) (f : ℕ → List Rational) → ((v : ℕ) → AllOf (IsNodeBase p ds sides) (f v)) → ((v : ℕ) → AllOf (λ a. IsNodeBase p ds sides (neg_ℚ a)) (f v)) → AreNodeWeights p ds sides (weights_of p ds f)
weights_base p ds sides f h k = record {
  rows = items_base (IsNodeBase p ds sides) f (length p.columns) 0 (length p.rows) h;
  columns = items_base (IsNodeBase p ds sides) f 0 0 (length p.columns) h;
  derived = items_base (IsNodeBase p ds sides) f (length p.columns + length p.rows) 0 (length ds) h;
  minus_columns = items_base (λ a. IsNodeBase p ds sides (neg_ℚ a)) f 0 0 (length p.columns) k;
}

pub optimal_weights_base : (p : Problem) (ds : List Derived) (sides : List Side) (x : List Rational) (w : Weights) (b : List Place) (d : Dictionary) → IsOptimalRelaxation p ds sides x w b d → AreNodeWeights p ds sides w
optimal_weights_base p ds sides x w b d h =
    let P : Weights → Type 0 = AreNodeWeights p ds sides in
    let gain : (v : ℕ) → IsCoefficient (system_of p ds sides) (gain_of d v) = λ v. of_objective b h.is_optimal.before d v h.is_optimal.is_run h.is_optimal.is_dictionary refl in
    subst P (sym h.weights) (weights_base p ds sides (optimal_weights d)
    (λ v. nonzero_base (IsNodeBase p ds sides) (gain_of d v) (IsNodeBase.of_run (coefficient (gain v))))
    (λ v. nonzero_base (λ a. IsNodeBase p ds sides (neg_ℚ a)) (gain_of d v) (IsNodeBase.of_run (minus_coefficient (gain_of d v) (gain v) refl))))

-- a weight of a row, and minus it
row_weight_base : (s : System) (integer : ℕ → Bool) (b : List Place) (before : List (List Place)) (d : Dictionary) (r v : ℕ) → IsRun s b before → IsDictionary s b d → IsBasic b r
    → IsRunBase s integer (row_weight d r v) × IsRunBase s integer (neg_ℚ (row_weight d r v))
row_weight_base s integer b before d r v h k basic = go (v == r)
  where
    number : IsCoefficient s (rate_of d v r)
    number = of_row b before d r v h k basic refl

    go : (t : Bool) → IsRunBase s integer (cond t one_ℚ (neg_ℚ (rate_of d v r))) × IsRunBase s integer (neg_ℚ (cond t one_ℚ (neg_ℚ (rate_of d v r))))
    go true = (one_number refl, minus_one (sym (neg_whole (pos 1))))
    go false = (minus_coefficient (rate_of d v r) number refl, (let P : Rational → Type 0 = IsRunBase s integer in subst P (sym (Q.neg_neg (rate_of d v r))) (coefficient number)))

blocking_base : (p : Problem) (ds : List Derived) (sides : List Side) (b : List Place) (before : List (List Place)) (d : Dictionary) (r : ℕ) (place : Place) → IsRun (system_of p ds sides) b before → IsDictionary (system_of p ds sides) b d → IsBasic b r
    → (v : ℕ) → AllOf (IsNodeBase p ds sides) (blocking_weights d r place v)
blocking_base p ds sides b before d r Basic h k basic v = tt
blocking_base p ds sides b before d r AtLower h k basic v = nonzero_base (IsNodeBase p ds sides) (row_weight d r v) (IsNodeBase.of_run ((row_weight_base (system_of p ds sides) (integer_at p) b before d r v h k basic).0))
blocking_base p ds sides b before d r AtUpper h k basic v = nonzero_base (IsNodeBase p ds sides) (neg_ℚ (row_weight d r v)) (IsNodeBase.of_run ((row_weight_base (system_of p ds sides) (integer_at p) b before d r v h k basic).1))
blocking_base p ds sides b before d r AtZero h k basic v = tt

minus_blocking_base : (p : Problem) (ds : List Derived) (sides : List Side) (b : List Place) (before : List (List Place)) (d : Dictionary) (r : ℕ) (place : Place) → IsRun (system_of p ds sides) b before → IsDictionary (system_of p ds sides) b d → IsBasic b r
    → (v : ℕ) → AllOf (λ a. IsNodeBase p ds sides (neg_ℚ a)) (blocking_weights d r place v)
minus_blocking_base p ds sides b before d r Basic h k basic v = tt
minus_blocking_base p ds sides b before d r AtLower h k basic v =
    nonzero_base (λ a. IsNodeBase p ds sides (neg_ℚ a)) (row_weight d r v) (IsNodeBase.of_run ((row_weight_base (system_of p ds sides) (integer_at p) b before d r v h k basic).1))
minus_blocking_base p ds sides b before d r AtUpper h k basic v =
    let P : Rational → Type 0 = IsNodeBase p ds sides in
    nonzero_base (λ a. IsNodeBase p ds sides (neg_ℚ a)) (neg_ℚ (row_weight d r v))
    (subst P (sym (Q.neg_neg (row_weight d r v))) (IsNodeBase.of_run ((row_weight_base (system_of p ds sides) (integer_at p) b before d r v h k basic).0)))
minus_blocking_base p ds sides b before d r AtZero h k basic v = tt

contradiction_base : (p : Problem) (ds : List Derived) (sides : List Side) (u v : ℕ) → AllOf (IsNodeBase p ds sides) (contradiction_weights u v)
contradiction_base p ds sides u v = go (v == u)
  where
    go : (t : Bool) → AllOf (IsNodeBase p ds sides) (cond t (one_ℚ ∷ whole (negsuc 0) ∷ []) [])
    go true = (IsNodeBase.of_run (one_number refl), (IsNodeBase.of_run (minus_one refl), tt))
    go false = tt

minus_contradiction_base : (p : Problem) (ds : List Derived) (sides : List Side) (u v : ℕ) → AllOf (λ a. IsNodeBase p ds sides (neg_ℚ a)) (contradiction_weights u v)
minus_contradiction_base p ds sides u v = go (v == u)
  where
    go : (t : Bool) → AllOf (λ a. IsNodeBase p ds sides (neg_ℚ a)) (cond t (one_ℚ ∷ whole (negsuc 0) ∷ []) [])
    go true = (IsNodeBase.of_run (minus_one (sym (neg_whole (pos 1)))), (IsNodeBase.of_run (one_number (sym (neg_whole (negsuc 0)))), tt))
    go false = tt

pub infeasible_weights_base : (p : Problem) (ds : List Derived) (sides : List Side) (w : Weights) → IsInfeasibleRelaxation p ds sides w → AreNodeWeights p ds sides w
infeasible_weights_base p ds sides w (contradiction u h e) =
    let P : Weights → Type 0 = AreNodeWeights p ds sides in
    subst P (sym e) (weights_base p ds sides (contradiction_weights u) (contradiction_base p ds sides u) (minus_contradiction_base p ds sides u))
infeasible_weights_base p ds sides w (blocked b d x r place h e) =
    let P : Weights → Type 0 = AreNodeWeights p ds sides in
    let basic : IsBasic b r = h.first_outside.holds.basic in
    subst P (sym e) (weights_base p ds sides (blocking_weights d r place) (blocking_base p ds sides b h.before d r place h.is_run h.is_dictionary basic) (minus_blocking_base p ds sides b h.before d r place h.is_run h.is_dictionary basic))

-- ---- rays

pub up_or_down : (d : Dictionary) (q : ℕ) (t : Rational) → IsHeading d q t → (t ≡ one_ℚ) ⊎ (t ≡ whole (negsuc 0))
up_or_down d q t (inl h) = inl h.1
up_or_down d q t (inr h) = inr h.1

pub unbounded_point_base : (p : Problem) (ds : List Derived) (sides : List Side) (x ray : List Rational) → IsUnboundedRelaxation p ds sides x ray → AllOf (IsNodeBase p ds sides) x
unbounded_point_base p ds sides x ray h =
    let P : List Rational → Type 0 = AllOf (IsNodeBase p ds sides) in
    let u = h.is_unbounded in
    subst P (sym h.point) (all_numbers (IsNodeBase p ds sides) 0 (length p.columns) h.values (length p.columns) (omega arith)
    (λ v k. IsNodeBase.of_run (coordinate (record { point = h.values; is_point = record { basis = h.basis; before = u.before; is_run = u.is_run; is_point = u.is_point }; variable = v; known = columns_known p ds sides v k; same = refl }))))

pub unbounded_ray_base : (p : Problem) (ds : List Derived) (sides : List Side) (x ray : List Rational) → IsUnboundedRelaxation p ds sides x ray → AllOf (IsNodeBase p ds sides) ray
unbounded_ray_base p ds sides x ray h =
    let P : List Rational → Type 0 = AllOf (IsNodeBase p ds sides) in
    let u = h.is_unbounded in
    subst P (sym h.is_ray) (all_numbers (IsNodeBase p ds sides) 0 (length p.columns) (made_whole (system_of p ds sides) (integer_at p) h.direction) (length p.columns) (omega arith)
    (λ v k. IsNodeBase.of_run (of_ray (made_whole (system_of p ds sides) (integer_at p) h.direction) v (record {
      direction = h.direction;
      is_direction = record {
        basis = h.basis;
        before = u.before;
        is_run = u.is_run;
        dictionary = h.dictionary;
        is_dictionary = u.is_dictionary;
        mover = h.mover;
        resting = u.first_improving.holds.resting;
        heading = u.heading;
        up_or_down = up_or_down h.dictionary h.mover u.heading u.is_heading;
        is_direction = u.is_direction;
      };
      is_ray = λ w l. refl;
    }) (columns_known p ds sides v k) refl)))
