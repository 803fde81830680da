-- What the test of each part of a certificate answers: whether the part holds, or the first operation on the way that does
-- not fit. Each names its tests in the order of the rule, and stops at the first that fails.
use Rattle.std.specs.Prelude.{ℕ, negsuc, neg_ℤ, ◌+◌, nat_le, ◌++◌, List, [], ◌∷◌, length, Bool, true, false, cond, ◌&&◌, Option, None, Some, is_some, Result, Ok, if◌then◌else◌}
use Rattle.rational.specs.Rational.{Rational, zero_ℚ, whole, ◌*ℚ◌}
use Rattle.milp.specs.Form.{Entry}
use Rattle.milp.specs.Problem.{Row, Problem}
use Rattle.milp.specs.Points.{sign_of}
use Rattle.milp.specs.declared.Direction.{Direction}
use Rattle.fraction.specs.declared.frac.NoFit.{NoFit}
use Rattle.fraction.specs.Answers.{add_answer}
use Rattle.rational.specs.Compare.{is_zero, is_less, is_at_most, is_same}
use Rattle.instance.specs.Sums.{and_then, sum_answer, meets_answer}
use Rattle.verdicts.specs.WeightedSums.{scaled, coefficient_of}
use Rattle.verdicts.specs.Certificate.{Version, Weights, FormSplit, Proof, Plain, BySplit, Derived, TreeNode, Branch, Empty, Bound}
use Rattle.verdicts.specs.Proves.{lies_above, lies_below, bound_for, meets_columns, in_range, is_whole_form, usable, may_split}
use Rattle.cert_check.specs.Setting.{Setting}
use Rattle.cert_check.specs.Sums.{and_also, with_product, next_answer, all_there, bound_sum, Product, products, weight_products, are_forms}
use Rattle.certificate.specs.declared.split.Side.{Side}
use Rattle.certificate.specs.declared.split.Side.TheVariants.{Low, High}

-- ---- point, value, ray

abbrev pub point_answer : Problem → Option (List Rational) → Result Bool NoFit
point_answer p None = Ok false
point_answer p (Some x) = meets_answer p x

-- the value of the objective's form, where with the constant it is the value that is claimed
abbrev pub form_value_answer : Problem → List Rational → Rational → Result (Option Rational) NoFit
form_value_answer p x v = and_then (sum_answer x zero_ℚ p.objective) (λ f. and_then (add_answer f p.constant) (λ t. Ok (if is_same v t then Some f else None)))

abbrev pub goal_answer : Problem → Option (List Rational) → Option Rational → Result (Option Rational) NoFit
goal_answer p None v = Ok None
goal_answer p (Some x) None = Ok None
goal_answer p (Some x) (Some v) = form_value_answer p x v

abbrev pub value_answer : Problem → Option (List Rational) → Option Rational → Result Bool NoFit
value_answer p x v = and_then (goal_answer p x v) (λ f. Ok (is_some f))

-- the ray leads out of no row, summed in order up to the first that it does
abbrev pub ray_rows_answer : List Rational → List Row → Result Bool NoFit
ray_rows_answer x [] = Ok true
ray_rows_answer x (r ∷ rs) = and_then (sum_answer x zero_ℚ r.entries) (λ v. cond (lies_above (bound_for true r.lower) v && lies_below (bound_for true r.upper) v) (ray_rows_answer x rs) (Ok false))

-- the ray leads out of no column and no row, and improves
abbrev pub is_improving_answer : Problem → List Rational → Result Bool NoFit
is_improving_answer p x = and_also (Ok (meets_columns true p.columns x)) (and_also (ray_rows_answer x p.rows) (and_then (sum_answer x zero_ℚ p.objective) (λ v. Ok (is_less (sign_of p.direction *ℚ v) zero_ℚ))))

abbrev pub ray_answer : Problem → Option (List Rational) → Result Bool NoFit
ray_answer p None = Ok false
ray_answer p (Some x) = is_improving_answer p x

-- ---- weights

-- entries in ascending order of column, from `least` on
abbrev pub ascending : ℕ → List Entry → Bool
ascending least [] = true
ascending least (e ∷ es) = nat_le least e.column && ascending (e.column + 1) es

-- with the sign of a direction, where there is one
abbrev pub signed_by : Option Direction → Rational → Rational
signed_by None v = v
signed_by (Some d) v = sign_of d *ℚ v

-- the bounds are there, F is the form that is wanted, and then R is enough
abbrev pub shown_answer : Setting → Weights → (ℕ → Rational) → (Rational → Bool) → Result Bool NoFit
shown_answer s w wanted enough = and_also (all_there s w) (and_also (are_forms (weight_products s w) wanted 0 s.problem.columns) (and_then (bound_sum s zero_ℚ w) (λ r. Ok (enough r))))

-- ---- derived rows

-- what the proof of a derived row stands on: the problem and, of the rows before it, those that the version lets it use
abbrev pub proof_setting : Problem → Version → List Derived → Setting
proof_setting p v before = record { version = v; problem = p; derived = usable v before; sides = [] }

abbrev pub side_weights : FormSplit → Side → Weights
side_weights s Low = s.low_weights
side_weights s High = s.high_weights

-- what the split's own inequality adds to F at column j: low times `-form`, or high times `form`
abbrev pub side_products : FormSplit → Side → ℕ → List Product
side_products s Low j = products s.low (scaled (whole (negsuc 0)) s.form) j
side_products s High j = products s.high s.form j

-- what it adds to R: low times `-at`, or high times `at + 1` where high is not 0
abbrev pub side_bound : FormSplit → Side → Result Rational NoFit
side_bound s Low = with_product zero_ℚ s.low (whole (neg_ℤ s.at))
side_bound s High = if is_zero s.high then Ok zero_ℚ else and_then (next_answer s.at) (λ b. with_product zero_ℚ s.high b)

-- one side of a split shows that the form is at least the bound
abbrev pub side_answer : Setting → FormSplit → Side → List Entry → Rational → Result Bool NoFit
side_answer st s side form bound = and_also (all_there st (side_weights s side)) (and_also (are_forms (λ j. side_products s side j ++ weight_products st (side_weights s side) j) (coefficient_of form) 0 st.problem.columns) (and_then (side_bound s side) (λ t. and_then (bound_sum st t (side_weights s side)) (λ r. Ok (is_at_most bound r)))))

abbrev pub split_answer : Setting → FormSplit → List Entry → Rational → Result Bool NoFit
split_answer st s form bound = and_also (Ok (is_whole_form st.problem s.form && (is_at_most zero_ℚ s.low && is_at_most zero_ℚ s.high))) (and_also (side_answer st s Low form bound) (side_answer st s High form bound))

abbrev pub proof_answer : Setting → List Entry → Rational → Proof → Result Bool NoFit
proof_answer st form bound (Plain w) = shown_answer st w (coefficient_of form) (is_at_most bound)
proof_answer st form bound (BySplit s) = split_answer st s form bound

-- `before` are the derived rows before it
abbrev pub derived_answer : Problem → Version → List Derived → Derived → Result Bool NoFit
derived_answer p v before d = and_also (Ok (in_range (length p.columns) d.form)) (proof_answer (proof_setting p v before) d.form d.bound d.proof)

-- ---- nodes

-- F is s * c, and R at least s times the value of the objective's form, where there is one to be shown
abbrev pub bound_answer : Setting → Option Rational → Weights → Result Bool NoFit
bound_answer s None w = Ok false
bound_answer s (Some f) w = shown_answer s w (λ j. sign_of s.problem.direction *ℚ coefficient_of s.problem.objective j) (is_at_most (sign_of s.problem.direction *ℚ f))

abbrev pub node_answer : Setting → Option Rational → TreeNode → Result Bool NoFit
node_answer s goal (Branch b) = Ok (may_split s.version b.form && is_whole_form s.problem b.form)
node_answer s goal (Empty w) = shown_answer s w (λ j. zero_ℚ) (is_less zero_ℚ)
node_answer s goal (Bound w) = bound_answer s goal w
