-- Where all nodes pass, no feasible point beats the goal.
use Rattle.std.proofs.Common.{◌≡◌, ◌∙◌, ap, ℕ, ◌+◌, List, [], ◌∷◌, ◌++◌, Bool, true, false, refl, sym, Option, Some, None, IfSome, length, if◌then◌else◌, ⊎_elim, inl, inr}
use Rattle.std.specs.Prelude.{pos, negsuc, ◌+ℤ◌, ◌⊎◌}
use Rattle.std.proofs.lemmas.Bool.{eqb-true, and_parts}
use Rattle.rational.specs.Rational.{Rational, ◌≤ℚ◌, ◌<ℚ◌, ◌*ℚ◌, ◌+ℚ◌, ◌-ℚ◌, neg_ℚ, zero_ℚ, one_ℚ, whole}
use Rattle.verdicts.specs.WeightedSums.{scaled, Weighted}
use Rattle.rational.proofs.Laws as Q
use Rattle.rational.proofs.Laws.{field, field_units, signs, same_true}
use Rattle.verdicts.proofs.Duality.{value-scaled}
use Rattle.rational.specs.Compare.{is_at_most, is_same}
use Rattle.milp.specs.Problem.{Problem}
use Rattle.milp.specs.Form.{Entry, number_at, sum_at}
use Rattle.milp.specs.Points.{Relaxed, Feasible, objective_value, sign_of}
use Rattle.verdicts.specs.Certificate.{Version, One, Two, Split, Side, Low, High, Weights, Derived, TreeNode, Branch, Empty, Bound}
use Rattle.verdicts.specs.Proves.{refutes, lesser, greater, lower_under, upper_under, narrows, is_column, unit_column, may_split, is_whole_form, narrowed, taken, TakesSide, TakesAll, terms, bound_passes, node_passes, below, Part, Test, first_failing, node_tests}
use Rattle.verdicts.proofs.Numbers.{le_by, neg_le, minus_one-mul, sides}
use Rattle.verdicts.proofs.Sums.{AllMeet, terms_meet, shows_sound, refutes_sound}
use Rattle.verdicts.specs.Proves.{InsideBounds, AllDerived}
use Rattle.verdicts.proofs.DerivedRows.{inside_own, takes_low, whole_value}

-- ---- bounds under one more split

lesser_above : (o : Option Rational) (b v : Rational) → IfSome o (λ a. v ≤ℚ a) → v ≤ℚ b → v ≤ℚ lesser o b
lesser_above None b v h k = k
lesser_above (Some a) b v h k = go (is_at_most a b)
  where
    go : (t : Bool) → v ≤ℚ (if t then a else b)
    go true = h
    go false = k

greater_below : (o : Option Rational) (b v : Rational) → IfSome o (λ a. a ≤ℚ v) → b ≤ℚ v → greater o b ≤ℚ v
greater_below None b v h k = k
greater_below (Some a) b v h k = go (is_at_most a b)
  where
    go : (t : Bool) → (if t then b else a) ≤ℚ v
    go true = k
    go false = h

-- the value of the form of a split that narrows a column is the column's number
pub narrowing_value : (form : List Entry) (j : ℕ) (x : List Rational) → is_column (unit_column form) j ≡ true → sum_at x form ≡ number_at x j
narrowing_value [] j x h = cc
narrowing_value (e ∷ []) j x h = go (is_same e.coefficient one_ℚ) refl h
  where
    go : (b : Bool) → is_same e.coefficient one_ℚ ≡ b → is_column (if b then Some e.column else None) j ≡ true → e.coefficient *ℚ number_at x e.column +ℚ zero_ℚ ≡ number_at x j
    go true k c = Q.add-zero _ ∙ ap (λ q. q *ℚ number_at x e.column) (same_true _ _ k) ∙ Q.one-mul _ ∙ ap (number_at x) (eqb-true e.column j c)
    go false k c = cc
narrowing_value (e ∷ f ∷ es) j x h = cc

under_low : (s : Split) (x : List Rational) → TakesSide x (Low s) → sum_at x s.form ≤ℚ whole s.at
under_low s x h = le_by _ _ _ _ (back (sum_at x s.form)) (back (whole s.at)) (neg_le _ _ (le_by _ _ _ _ (sym (Q.neg_whole s.at)) (sym (value-scaled (number_at x) (whole (negsuc 0)) s.form ∙ minus_one-mul (sum_at x s.form))) h))
  where
    back : (a : Rational) → a ≡ neg_ℚ (neg_ℚ a)
    back a = sym (Q.neg_neg a)

pub inside_low : (p : Problem) (s : Split) (at : List Side) (x : List Rational) → InsideBounds p at x → sum_at x s.form ≤ℚ whole s.at → InsideBounds p (Low s ∷ at) x
inside_low p s at x h k = record { within = λ j. record { low = (h.within j).low; high = go j (narrows s j) refl } }
  where
    go : (j : ℕ) (t : Bool) → narrows s j ≡ t → IfSome (if t then Some (lesser (upper_under p at j) (whole s.at)) else upper_under p at j) (λ b. number_at x j ≤ℚ b)
    go j true e =
        lesser_above (upper_under p at j) (whole s.at) (number_at x j) (h.within j).high (le_by _ _ _ _ (sym (narrowing_value s.form j x e)) refl k)
    go j false e = (h.within j).high

pub inside_high : (p : Problem) (s : Split) (at : List Side) (x : List Rational) → InsideBounds p at x → whole (s.at +ℤ pos 1) ≤ℚ sum_at x s.form → InsideBounds p (High s ∷ at) x
inside_high p s at x h k = record { within = λ j. record { low = go j (narrows s j) refl; high = (h.within j).high } }
  where
    go : (j : ℕ) (t : Bool) → narrows s j ≡ t → IfSome (if t then Some (greater (lower_under p at j) (whole (s.at +ℤ pos 1))) else lower_under p at j) (λ b. b ≤ℚ number_at x j)
    go j true e =
        greater_below (lower_under p at j) (whole (s.at +ℤ pos 1)) (number_at x j) (h.within j).low (le_by _ _ _ _ refl (sym (narrowing_value s.form j x e)) k)
    go j false e = (h.within j).low

-- a point on each side taken is inside the bounds that they narrow
pub inside_taken : (p : Problem) (at : List Side) (x : List Rational) → Relaxed p x → TakesAll x at → InsideBounds p at x
inside_taken p [] x r h = inside_own p x r
inside_taken p (Low s ∷ at) x r h = inside_low p s at x (inside_taken p at x r h.1) (under_low s x h.0)
inside_taken p (High s ∷ at) x r h = inside_high p s at x (inside_taken p at x r h.1) h.0

inside_version : (p : Problem) (v : Version) (at : List Side) (x : List Rational) → Relaxed p x → TakesAll x at → InsideBounds p (narrowed v at) x
inside_version p One at x r h = inside_taken p at x r h
inside_version p Two at x r h = inside_own p x r

taken_version : (v : Version) (at : List Side) (x : List Rational) → TakesAll x at → TakesAll x (taken v at)
taken_version One at x h = tt
taken_version Two at x h = h

-- ---- one node

-- x is better than the value to be shown, or any point where there is none
abbrev pub Beats : Problem → Option Rational → List Rational → Type 0
Beats p None x = Unit {0}
Beats p (Some v) x = sign_of p.direction *ℚ objective_value p x <ℚ sign_of p.direction *ℚ v

-- no feasible point under these splits beats the goal
pub record IsClosed (p : Problem) (goal : Option Rational) (at : List Side) : Type 0 where
  pub none : (x : List Rational) → Feasible p x → Beats p goal x → TakesAll x at → ⊥

abbrev pub AllClosed : Problem → Option Rational → List (List Side) → Type 0
AllClosed p goal [] = Unit {0}
AllClosed p goal (at ∷ places) = IsClosed p goal at × AllClosed p goal places

-- the derived rows hold at each feasible point
pub record DerivedHold (p : Problem) (ds : List Derived) : Type 0 where
  pub all : (x : List Rational) → Feasible p x → AllDerived x ds

shift : (s v c d : Rational) → s *ℚ (v -ℚ c) ≤ℚ s *ℚ d → s *ℚ v ≤ℚ s *ℚ (d +ℚ c)
shift s v c d h = le_by _ _ _ _ (left s v c) (Q.mul_add s d c) (Q.add-le-add _ _ _ _ h (Q.le_refl (s *ℚ c)))
  where
    left : (s v c : Rational) → s *ℚ v ≡ s *ℚ (v -ℚ c) +ℚ s *ℚ c
    left s v c = simp (field, signs, field_units)

-- a value that weights show is at most that of each point of the leaf
bound_shown : (p : Problem) (v : Rational) (o : Option (List Weighted)) (x : List Rational) → length x ≡ length p.columns → IfSome o (AllMeet x) → bound_passes p (Some v) o ≡ true → sign_of p.direction *ℚ v ≤ℚ sign_of p.direction *ℚ objective_value p x
bound_shown p v o x e h t =
    let shown = shows_sound (length p.columns) x o (scaled (sign_of p.direction) p.objective) (sign_of p.direction *ℚ (v -ℚ p.constant)) e h t in
    shift (sign_of p.direction) v p.constant (sum_at x p.objective) (le_by _ _ _ _ refl (sym (value-scaled (number_at x) (sign_of p.direction) p.objective)) shown)

-- under bounds that some sides narrow, and on others
pub empty_under : (p : Problem) (ds : List Derived) (narrowed taken : List Side) (w : Weights) (x : List Rational) → refutes (length p.columns) (terms p ds narrowed taken w) ≡ true → Relaxed p x → InsideBounds p narrowed x → TakesAll x taken → AllDerived x ds → ⊥
empty_under p ds narrowed taken w x t r i s d = refutes_sound (length p.columns) x (terms p ds narrowed taken w) r.size (terms_meet p ds narrowed taken w x r d i s) t

pub bound_under : (p : Problem) (goal : Rational) (ds : List Derived) (narrowed taken : List Side) (w : Weights) (x : List Rational) → bound_passes p (Some goal) (terms p ds narrowed taken w) ≡ true → Relaxed p x → InsideBounds p narrowed x → TakesAll x taken → AllDerived x ds → sign_of p.direction *ℚ goal ≤ℚ sign_of p.direction *ℚ objective_value p x
bound_under p goal ds narrowed taken w x t r i s d = bound_shown p goal (terms p ds narrowed taken w) x r.size (terms_meet p ds narrowed taken w x r d i s) t

pub leaf_empty : (p : Problem) (v : Version) (goal : Option Rational) (ds : List Derived) (at : List Side) (w : Weights) (x : List Rational) → node_passes p v goal ds at (Empty w) ≡ true → Relaxed p x → TakesAll x at → AllDerived x ds → ⊥
leaf_empty p v goal ds at w x t r i d = empty_under p ds (narrowed v at) (taken v at) w x t r (inside_version p v at x r i) (taken_version v at x i) d

pub leaf_bound : (p : Problem) (v : Version) (goal : Rational) (ds : List Derived) (at : List Side) (w : Weights) (x : List Rational) → node_passes p v (Some goal) ds at (Bound w) ≡ true → Relaxed p x → TakesAll x at → AllDerived x ds → sign_of p.direction *ℚ goal ≤ℚ sign_of p.direction *ℚ objective_value p x
leaf_bound p v goal ds at w x t r i d = bound_under p goal ds (narrowed v at) (taken v at) w x t r (inside_version p v at x r i) (taken_version v at x i) d

pub on_a_side : (p : Problem) (s : Split) (x : List Rational) → Feasible p x → is_whole_form p s.form ≡ true → TakesSide x (Low s) ⊎ TakesSide x (High s)
on_a_side p s x f t = ⊎_elim (λ l. inl (takes_low s x l)) (λ l. inr l) (sides (sum_at x s.form) s.at (whole_value p x s.form f t))

bound_closed : (p : Problem) (v : Version) (goal : Option Rational) (ds : List Derived) (at : List Side) (w : Weights) (x : List Rational) → node_passes p v goal ds at (Bound w) ≡ true → Relaxed p x → TakesAll x at → AllDerived x ds → Beats p goal x → ⊥
bound_closed p v None ds at w x t r i d b = cc
bound_closed p v (Some goal) ds at w x t r i d b = Q.lt-not-le _ _ b (leaf_bound p v goal ds at w x t r i d)

node_closed : (p : Problem) (v : Version) (goal : Option Rational) (ds : List Derived) (at : List Side) (node : TreeNode) → DerivedHold p ds → node_passes p v goal ds at node ≡ true → AllClosed p goal (below node at) → IsClosed p goal at
node_closed p v goal ds at (Branch s) d t k = record { none = λ x h b i. ⊎_elim (λ l. k.0.none x h b (l, i)) (λ l. k.1.0.none x h b (l, i)) (on_a_side p s x h (and_parts (may_split v s.form) (is_whole_form p s.form) t).1) }
node_closed p v goal ds at (Empty w) d t k = record { none = λ x h b i. leaf_empty p v goal ds at w x t h.relaxed i (d.all x h) }
node_closed p v goal ds at (Bound w) d t k = record { none = λ x h b i. bound_closed p v goal ds at w x t h.relaxed i (d.all x h) b }

-- ---- the tree

pub passing : (t : Test) (ts : List Test) → first_failing (t ∷ ts) ≡ None → (t.passes ≡ true) × (first_failing ts ≡ None)
passing t ts h = go t.passes refl
  where
    go : (b : Bool) → t.passes ≡ b → (t.passes ≡ true) × (first_failing ts ≡ None)
    go true e = (e, rw e at h)
    go false e = let k = rw e at h in cc

closed_rest : (p : Problem) (goal : Option Rational) (first places : List (List Side)) → AllClosed p goal (first ++ places) → AllClosed p goal first × AllClosed p goal places
closed_rest p goal [] places h = (tt, h)
closed_rest p goal (at ∷ first) places h = let both = closed_rest p goal first places h.1 in ((h.0, both.0), both.1)

pub tree_closed : (p : Problem) (v : Version) (goal : Option Rational) (ds : List Derived) → DerivedHold p ds → (nodes : List TreeNode) (k : ℕ) (places : List (List Side)) → first_failing (node_tests p v goal ds k places nodes) ≡ None → AllClosed p goal places
tree_closed p v goal ds d [] k [] h = tt
tree_closed p v goal ds d [] k (at ∷ places) h = cc
tree_closed p v goal ds d (node ∷ nodes) k [] h = cc
tree_closed p v goal ds d (node ∷ nodes) k (at ∷ places) h =
    let both = passing (record { part = Part.Node k; passes = node_passes p v goal ds at node }) (node_tests p v goal ds (k + 1) (below node at ++ places) nodes) h in
    let rest = closed_rest p goal (below node at) places (tree_closed p v goal ds d nodes (k + 1) (below node at ++ places) both.1) in
    (node_closed p v goal ds at node d both.0 rest.0, rest.1)
