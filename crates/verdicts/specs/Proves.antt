-- When a certificate proves its verdict: a list of parts, each a finite test.
use Rattle.std.specs.Prelude.{ℕ, is_some, pos, negsuc, ◌+ℤ◌, neg_ℤ, zero, suc, ◌+◌, List, [], ◌∷◌, ◌++◌, length, Bool, true, false, ◌&&◌, ◌||◌, not, ◌==◌, nat_lt, Option, Some, None, option_and_then, slice_get, IfSome, if◌then◌else◌, ◌≡◌}
use Rattle.rational.specs.Rational.{Rational, zero_ℚ, one_ℚ, whole, ◌*ℚ◌, ◌-ℚ◌, ◌≤ℚ◌}
use Rattle.milp.specs.Form.{Entry}
use Rattle.verdicts.specs.WeightedSums.{scaled, Weighted, combined, combined_bound, coefficient_of}
use Rattle.rational.specs.Compare.{is_less, is_at_most, is_same, is_whole}
use Rattle.milp.specs.Problem.{Column, Row, Problem}
use Rattle.milp.specs.Points.{IsWithin, objective_value, sign_of, IsOptimal, Feasible, IsUnbounded}
use Rattle.milp.specs.Form.{number_at, sum_at}
use Rattle.verdicts.specs.Certificate.{Version, One, Two, Split, Verdict, Optimal, Infeasible, Unbounded, Item, Weights, Side, Low, High, FormSplit, Proof, Plain, BySplit, Derived, TreeNode, Branch, Empty, Bound, Certificate}

-- ---- points and rays

abbrev pub lies_above : Option Rational → Rational → Bool
lies_above None v = true
lies_above (Some b) v = is_at_most b v

abbrev pub lies_below : Option Rational → Rational → Bool
lies_below None v = true
lies_below (Some b) v = is_at_most v b

-- what a bound is to a point, or to a ray: 0 where there is one
abbrev pub bound_for : Bool → Option Rational → Option Rational
bound_for false o = o
bound_for true None = None
bound_for true (Some b) = Some zero_ℚ

abbrev pub meets_columns : Bool → List Column → List Rational → Bool
meets_columns ray [] [] = true
meets_columns ray [] (v ∷ vs) = false
meets_columns ray (c ∷ cs) [] = false
meets_columns ray (c ∷ cs) (v ∷ vs) = (lies_above (bound_for ray c.lower) v && lies_below (bound_for ray c.upper) v) && ((not c.integer || is_whole v) && meets_columns ray cs vs)

abbrev pub meets_rows : Bool → List Row → List Rational → Bool
meets_rows ray [] x = true
meets_rows ray (r ∷ rs) x = (lies_above (bound_for ray r.lower) (sum_at x r.entries) && lies_below (bound_for ray r.upper) (sum_at x r.entries)) && meets_rows ray rs x

-- x is feasible
abbrev pub meets : Problem → List Rational → Bool
meets p x = meets_columns false p.columns x && meets_rows false p.rows x

abbrev pub is_improving_ray : Problem → List Rational → Bool
is_improving_ray p r = (meets_columns true p.columns r && meets_rows true p.rows r) && is_less (sign_of p.direction *ℚ sum_at r p.objective) zero_ℚ

-- ---- bounds under the splits on the way to a node, the latest first

abbrev pub lesser : Option Rational → Rational → Rational
lesser None b = b
lesser (Some a) b = if is_at_most a b then a else b

abbrev pub greater : Option Rational → Rational → Rational
greater None b = b
greater (Some a) b = if is_at_most a b then b else a

-- the column of a form that is one column with coefficient 1
abbrev pub unit_column : List Entry → Option ℕ
unit_column [] = None
unit_column (e ∷ []) = if is_same e.coefficient one_ℚ then Some e.column else None
unit_column (e ∷ f ∷ es) = None

abbrev pub is_column : Option ℕ → ℕ → Bool
is_column None j = false
is_column (Some i) j = i == j

-- the split is one of column j with coefficient 1: it narrows the bounds of j
abbrev pub narrows : Split → ℕ → Bool
narrows s j = is_column (unit_column s.form) j

abbrev pub lower_under : Problem → List Side → ℕ → Option Rational
lower_under p [] j = option_and_then (λ c. c.lower) (slice_get p.columns j)
lower_under p (Low s ∷ sides) j = lower_under p sides j
lower_under p (High s ∷ sides) j = if narrows s j then Some (greater (lower_under p sides j) (whole (s.at +ℤ pos 1))) else lower_under p sides j

abbrev pub upper_under : Problem → List Side → ℕ → Option Rational
upper_under p [] j = option_and_then (λ c. c.upper) (slice_get p.columns j)
upper_under p (Low s ∷ sides) j = if narrows s j then Some (lesser (upper_under p sides j) (whole s.at)) else upper_under p sides j
upper_under p (High s ∷ sides) j = upper_under p sides j

-- ---- the side taken of a split, as an inequality: form >= bound

abbrev pub side_form : Side → List Entry
side_form (Low s) = scaled (whole (negsuc 0)) s.form
side_form (High s) = s.form

abbrev pub side_bound : Side → Rational
side_bound (Low s) = whole (neg_ℤ s.at)
side_bound (High s) = whole (s.at +ℤ pos 1)

abbrev pub TakesSide : List Rational → Side → Type 0
TakesSide x s = side_bound s ≤ℚ sum_at x (side_form s)

-- the point is on each side taken
abbrev pub TakesAll : List Rational → List Side → Type 0
TakesAll x [] = Unit {0}
TakesAll x (s ∷ sides) = TakesSide x s × TakesAll x sides

-- the side taken at the i-th split from the root, where the latest stands first
abbrev pub way_get : List Side → ℕ → Option Side
way_get [] i = None
way_get (s ∷ sides) i = if i == length sides then Some s else way_get sides i

-- ---- sums of weights: the inequalities that the weights name, none where an index or a bound is missing

abbrev pub term : Rational → List Entry → Option Rational → Option Weighted
term w form None = None
term w form (Some b) = Some (record { weight = w; form = form; bound = b })

abbrev pub bound_used : Rational → Option Rational → Option Rational → Option Rational
bound_used w lower upper = if is_less zero_ℚ w then lower else upper

abbrev pub row_term : Problem → Item → Option Weighted
row_term p i = option_and_then (λ r. term i.weight r.entries (bound_used i.weight r.lower r.upper)) (slice_get p.rows i.index)

abbrev pub column_term : Problem → List Side → Item → Option Weighted
column_term p sides i = term i.weight (record { column = i.index; coefficient = one_ℚ } ∷ []) (bound_used i.weight (lower_under p sides i.index) (upper_under p sides i.index))

abbrev pub derived_term : List Derived → Item → Option Weighted
derived_term ds i = if is_less zero_ℚ i.weight then option_and_then (λ d. term i.weight d.form (Some d.bound)) (slice_get ds i.index) else None

abbrev pub split_term : List Side → Item → Option Weighted
split_term taken i = if is_less zero_ℚ i.weight then option_and_then (λ s. term i.weight (side_form s) (Some (side_bound s))) (way_get taken i.index) else None

abbrev pub joined : Option Weighted → Option (List Weighted) → Option (List Weighted)
joined None ts = None
joined (Some t) None = None
joined (Some t) (Some ts) = Some (t ∷ ts)

-- the terms of the items, and then the rest
abbrev pub gathered : (Item → Option Weighted) → List Item → Option (List Weighted) → Option (List Weighted)
gathered f [] rest = rest
gathered f (i ∷ is) rest = joined (f i) (gathered f is rest)

-- the sides in `narrowed` narrow the columns' bounds, and those in `taken` may have weights
abbrev pub terms : Problem → List Derived → List Side → List Side → Weights → Option (List Weighted)
terms p ds narrowed taken w = gathered (row_term p) w.rows (gathered (column_term p narrowed) w.columns (gathered (derived_term ds) w.derived (gathered (split_term taken) w.splits (Some []))))

-- both forms have the same coefficient at each column below n
abbrev pub same_form : ℕ → List Entry → List Entry → Bool
same_form zero f g = true
same_form (suc n) f g = is_same (coefficient_of f n) (coefficient_of g n) && same_form n f g

-- F is the form, and R is at least the bound
abbrev pub shows : ℕ → Option (List Weighted) → List Entry → Rational → Bool
shows n None form bound = false
shows n (Some ts) form bound = same_form n (combined ts) form && is_at_most bound (combined_bound ts)

-- F is zero, and R is above 0
abbrev pub refutes : ℕ → Option (List Weighted) → Bool
refutes n None = false
refutes n (Some ts) = same_form n (combined ts) [] && is_less zero_ℚ (combined_bound ts)

-- each column's number is inside its bounds under the splits
pub record InsideBounds (p : Problem) (sides : List Side) (x : List Rational) : Type 0 where
  pub within : (j : ℕ) → IsWithin (lower_under p sides j) (upper_under p sides j) (number_at x j)

abbrev pub MeetsDerived : List Rational → Derived → Type 0
MeetsDerived x d = d.bound ≤ℚ sum_at x d.form

abbrev pub AllDerived : List Rational → List Derived → Type 0
AllDerived x ds = (k : ℕ) → IfSome (slice_get ds k) (MeetsDerived x)

-- ---- derived rows

abbrev pub is_integer : Option Column → Bool
is_integer None = false
is_integer (Some c) = c.integer

abbrev pub is_whole_form : Problem → List Entry → Bool
is_whole_form p [] = true
is_whole_form p (e ∷ es) = (is_whole e.coefficient && is_integer (slice_get p.columns e.column)) && is_whole_form p es

abbrev pub in_range : ℕ → List Entry → Bool
in_range n [] = true
in_range n (e ∷ es) = nat_lt e.column n && in_range n es

abbrev pub side_term : Rational → Side → Weighted
side_term w s = record { weight = w; form = side_form s; bound = side_bound s }

abbrev pub low_term : FormSplit → Weighted
low_term s = side_term s.low (Low (record { form = s.form; at = s.at }))

abbrev pub high_term : FormSplit → Weighted
high_term s = side_term s.high (High (record { form = s.form; at = s.at }))

-- `before` are the derived rows that it may use
abbrev pub proof_passes : Problem → List Derived → List Entry → Rational → Proof → Bool
proof_passes p before form bound (Plain w) = shows (length p.columns) (terms p before [] [] w) form bound
proof_passes p before form bound (BySplit s) =
    (is_whole_form p s.form && (is_at_most zero_ℚ s.low && is_at_most zero_ℚ s.high))
    && (shows (length p.columns) (joined (Some (low_term s)) (terms p before [] [] s.low_weights)) form bound
    && shows (length p.columns) (joined (Some (high_term s)) (terms p before [] [] s.high_weights)) form bound)

abbrev pub derived_passes : Problem → List Derived → Derived → Bool
derived_passes p before d = in_range (length p.columns) d.form && proof_passes p before d.form d.bound d.proof

-- ---- what the versions differ in

-- the derived rows that the proof of the next one may use
abbrev pub usable : Version → List Derived → List Derived
usable One before = []
usable Two before = before

-- the splits on the way that narrow columns' bounds
abbrev pub narrowed : Version → List Side → List Side
narrowed One sides = sides
narrowed Two sides = []

-- the splits on the way that weights may name
abbrev pub taken : Version → List Side → List Side
taken One sides = []
taken Two sides = sides

abbrev pub may_split : Version → List Entry → Bool
may_split One form = is_some (unit_column form)
may_split Two form = true

-- ---- nodes, in preorder

-- s * (V - c0) where a value V is to be shown
abbrev pub bound_passes : Problem → Option Rational → Option (List Weighted) → Bool
bound_passes p None ts = false
bound_passes p (Some v) ts = shows (length p.columns) ts (scaled (sign_of p.direction) p.objective) (sign_of p.direction *ℚ (v -ℚ p.constant))

abbrev pub node_passes : Problem → Version → Option Rational → List Derived → List Side → TreeNode → Bool
node_passes p v goal ds sides (Branch s) = may_split v s.form && is_whole_form p s.form
node_passes p v goal ds sides (Empty w) = refutes (length p.columns) (terms p ds (narrowed v sides) (taken v sides) w)
node_passes p v goal ds sides (Bound w) = bound_passes p goal (terms p ds (narrowed v sides) (taken v sides) w)

abbrev pub below : TreeNode → List Side → List (List Side)
below (Branch s) sides = (Low s ∷ sides) ∷ (High s ∷ sides) ∷ []
below (Empty w) sides = []
below (Bound w) sides = []

-- ---- the parts, in order

pub data Part : Type 0 where
  Size : Part
  Point : Part
  Value : Part
  Ray : Part
  DerivedRow : ℕ → Part
  Node : ℕ → Part

pub record Test : Type 0 where
  pub part : Part
  pub passes : Bool

-- the rows behind those `before`
abbrev pub derived_tests : Problem → Version → ℕ → List Derived → List Derived → List Test
derived_tests p v k before [] = []
derived_tests p v k before (d ∷ ds) = record { part = DerivedRow k; passes = derived_passes p (usable v before) d } ∷ derived_tests p v (k + 1) (before ++ d ∷ []) ds

-- the places that are still to be filled are known by the splits on the way to each
abbrev pub node_tests : Problem → Version → Option Rational → List Derived → ℕ → List (List Side) → List TreeNode → List Test
node_tests p v goal ds k [] [] = []
node_tests p v goal ds k [] (node ∷ nodes) = record { part = Node k; passes = false } ∷ []
node_tests p v goal ds k (sides ∷ places) [] = record { part = Node k; passes = false } ∷ []
node_tests p v goal ds k (sides ∷ places) (node ∷ nodes) = record { part = Node k; passes = node_passes p v goal ds sides node } ∷ node_tests p v goal ds (k + 1) (below node sides ++ places) nodes

abbrev pub tree_tests : Problem → Option Rational → Certificate → List Test
tree_tests p goal c = derived_tests p c.version 1 [] c.derived ++ node_tests p c.version goal c.derived 1 ([] ∷ []) c.tree

abbrev pub point_passes : Problem → Option (List Rational) → Bool
point_passes p None = false
point_passes p (Some x) = meets p x

abbrev pub value_passes : Problem → Option (List Rational) → Option Rational → Bool
value_passes p None v = false
value_passes p (Some x) None = false
value_passes p (Some x) (Some v) = is_same v (objective_value p x)

abbrev pub ray_passes : Problem → Option (List Rational) → Bool
ray_passes p None = false
ray_passes p (Some r) = is_improving_ray p r

abbrev pub verdict_tests : Problem → Certificate → Verdict → List Test
verdict_tests p c Optimal = record { part = Point; passes = point_passes p c.point } ∷ record { part = Value; passes = value_passes p c.point c.value } ∷ tree_tests p c.value c
verdict_tests p c Infeasible = tree_tests p None c
verdict_tests p c Unbounded = record { part = Point; passes = point_passes p c.point } ∷ record { part = Ray; passes = ray_passes p c.ray } ∷ []

abbrev pub tests : Problem → Certificate → List Test
tests p c = record { part = Size; passes = (c.rows == length p.rows) && (c.columns == length p.columns) } ∷ verdict_tests p c c.verdict

abbrev pub first_failing : List Test → Option Part
first_failing [] = None
first_failing (t ∷ ts) = if t.passes then first_failing ts else Some t.part

abbrev pub Proves : Problem → Certificate → Type 0
Proves p c = first_failing (tests p c) ≡ None

-- ---- what a verdict says

abbrev pub Holds : Problem → Certificate → Verdict → Type 0
Holds p c Optimal = (x : List Rational) × (c.point ≡ Some x) × (c.value ≡ Some (objective_value p x)) × IsOptimal p x
Holds p c Infeasible = (x : List Rational) → ¬ (Feasible p x)
Holds p c Unbounded = (x : List Rational) × (r : List Rational) × (c.point ≡ Some x) × (c.ray ≡ Some r) × IsUnbounded p x r
