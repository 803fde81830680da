-- Where all nodes pass, a feasible point that is better lies at a leaf that is left to do.
use Rattle.std.proofs.Common.{◌≡◌, ◌∙◌, ℕ, zero, suc, ◌+◌, List, [], ◌∷◌, ◌++◌, length, map, take, reverse, slice_get, Bool, true, false, Option, None, Some, refl, sym, ap, subst, inl, inr, ⊎_elim, append_assoc, append-nil}
use Rattle.std.specs.Prelude.{◌⊎◌}
use Rattle.std.proofs.lemmas.Bool.{and_parts}
use Rattle.std.proofs.lemmas.Grind.{reverse_onto}
use Rattle.rational.specs.Rational.{Rational, ◌≤ℚ◌, ◌*ℚ◌}
use Rattle.milp.specs.Problem.{Problem}
use Rattle.milp.specs.Points.{Feasible, objective_value, sign_of}
use Rattle.verdicts.specs.Certificate.{Two, Side, Derived, TreeNode, Branch, Empty, Bound}
use Rattle.verdicts.specs.Proves.{Part, Test, below, may_split, is_whole_form, node_passes, derived_passes, derived_tests, first_failing, TakesAll, AllDerived}
use Rattle.verdicts.specs.Preorder.{way_to, ways_to}
use Rattle.verdicts.proofs.Laws.{derived_sound, derived_more, leaf_empty, leaf_bound, on_a_side, ways_step}
use Rattle.partial_certificate.specs.Partial.{PartialNode, Done, Todo, shape}
use Rattle.partial_certificate.specs.Shown.{partial_passes, node_tests}

-- ---- lists of tests

pub passing : (t : Test) (ts : List Test) → first_failing (t ∷ ts) ≡ None → (t.passes ≡ true) × (first_failing ts ≡ None)
passing t ts h = go t.passes refl
  where
    go : (b : Bool) → t.passes ≡ b → (t.passes ≡ true) × (first_failing ts ≡ None)
    go true e = (e, rw e at h)
    go false e = let k = rw e at h in cc

pub passing_both : (ts us : List Test) → first_failing (ts ++ us) ≡ None → (first_failing ts ≡ None) × (first_failing us ≡ None)
passing_both [] us h = (refl, h)
passing_both (t ∷ ts) us h =
    let one = passing t (ts ++ us) h in
    let both = passing_both ts us one.1 in
    let e = one.0 in
    (rw e both.0, both.1)

-- ---- derived rows

pub rows_hold : (p : Problem) (x : List Rational) → Feasible p x → (k : ℕ) (before ds : List Derived) → AllDerived x before → first_failing (derived_tests p Two k before ds) ≡ None → AllDerived x (before ++ ds)
rows_hold p x f k before [] h t = rw (append-nil before) h
rows_hold p x f k before (d ∷ ds) h t =
    let one = passing (record { part = Part.DerivedRow k; passes = derived_passes p before d }) (derived_tests p Two (k + 1) (before ++ d ∷ []) ds) t in
    let more = derived_more x before d h (derived_sound p before x d f h one.0) in
    rw (append_assoc before (d ∷ []) ds) at (rows_hold p x f (k + 1) (before ++ d ∷ []) ds more one.1)

-- ---- nodes

-- there is a value, and that of x is not better
abbrev pub IsAtLeast : Problem → Option Rational → List Rational → Type 0
IsAtLeast p None x = ⊥
IsAtLeast p (Some v) x = sign_of p.direction *ℚ v ≤ℚ sign_of p.direction *ℚ objective_value p x

-- x lies at one of the nodes that is left to do, where these are before, the latest first
pub record IsLeft (before : List TreeNode) (nodes : List PartialNode) (x : List Rational) : Type 0 where
  pub place : ℕ
  pub todo : slice_get nodes place ≡ Some Todo
  pub sides : TakesAll x (way_to (reverse (take place (map shape nodes)) ++ before) 0)

abbrev pub IsTold : Problem → Option Rational → List TreeNode → List PartialNode → List Rational → Type 0
IsTold p goal before nodes x = IsAtLeast p goal x ⊎ IsLeft before nodes x

-- at each of these places
abbrev pub AllTold : Problem → Option Rational → List TreeNode → List PartialNode → List Rational → List (List Side) → Type 0
AllTold p goal before nodes x [] = Unit {0}
AllTold p goal before nodes x (at ∷ places) = (TakesAll x at → IsTold p goal before nodes x) × AllTold p goal before nodes x places

one_later : (node : PartialNode) (before : List TreeNode) (nodes : List PartialNode) (x : List Rational) → IsLeft (shape node ∷ before) nodes x → IsLeft before (node ∷ nodes) x
one_later node before nodes x h =
    let front = take h.place (map shape nodes) in
    let same : reverse front ++ (shape node ∷ before) ≡ reverse (shape node ∷ front) ++ before = turned front (shape node) before in
    record { place = suc h.place; todo = h.todo; sides = subst (λ xs. TakesAll x (way_to xs 0)) same h.sides }
  where
    turned : (xs : List TreeNode) (y : TreeNode) (zs : List TreeNode) → reverse xs ++ (y ∷ zs) ≡ reverse (y ∷ xs) ++ zs
    turned xs y zs = sym (append_assoc (reverse xs) (y ∷ []) zs) ∙ ap (λ l. l ++ zs) (sym (reverse_onto xs y []))

told_later : (p : Problem) (goal : Option Rational) (node : PartialNode) (before : List TreeNode) (nodes : List PartialNode) (x : List Rational) → IsTold p goal (shape node ∷ before) nodes x → IsTold p goal before (node ∷ nodes) x
told_later p goal node before nodes x h = ⊎_elim (λ l. inl l) (λ r. inr (one_later node before nodes x r)) h

all_later : (p : Problem) (goal : Option Rational) (node : PartialNode) (before : List TreeNode) (nodes : List PartialNode) (x : List Rational) (places : List (List Side)) → AllTold p goal (shape node ∷ before) nodes x places → AllTold p goal before (node ∷ nodes) x places
all_later p goal node before nodes x [] h = tt
all_later p goal node before nodes x (at ∷ places) h = (λ i. told_later p goal node before nodes x (h.0 i), all_later p goal node before nodes x places h.1)

told_parts : (p : Problem) (goal : Option Rational) (before : List TreeNode) (nodes : List PartialNode) (x : List Rational) (first places : List (List Side)) → AllTold p goal before nodes x (first ++ places) → AllTold p goal before nodes x first × AllTold p goal before nodes x places
told_parts p goal before nodes x [] places h = (tt, h)
told_parts p goal before nodes x (at ∷ first) places h = let both = told_parts p goal before nodes x first places h.1 in ((h.0, both.0), both.1)

bound_told : (p : Problem) (goal : Option Rational) (ds : List Derived) (at : List Side) (node : TreeNode) (x : List Rational) → node_passes p Two goal ds at node ≡ true → Feasible p x → AllDerived x ds → TakesAll x at → (before : List TreeNode) (nodes : List PartialNode) → AllTold p goal before nodes x (below node at) → IsTold p goal before nodes x
bound_told p goal ds at (Branch s) x t f d i before nodes k = ⊎_elim (λ l. k.0 (l, i)) (λ r. k.1.0 (r, i)) (on_a_side p s x f (and_parts (may_split Two s.form) (is_whole_form p s.form) t).1)
bound_told p goal ds at (Empty w) x t f d i before nodes k = absurd (leaf_empty p Two goal ds at w x t f.relaxed i d)
bound_told p None ds at (Bound w) x t f d i before nodes k = cc
bound_told p (Some v) ds at (Bound w) x t f d i before nodes k = inl (leaf_bound p Two v ds at w x t f.relaxed i d)

node_told : (p : Problem) (goal : Option Rational) (ds : List Derived) (node : PartialNode) (before : List TreeNode) (nodes : List PartialNode) (x : List Rational) → partial_passes p goal ds (way_to before 0) node ≡ true → Feasible p x → AllDerived x ds → AllTold p goal before (node ∷ nodes) x (below (shape node) (way_to before 0)) → TakesAll x (way_to before 0) → IsTold p goal before (node ∷ nodes) x
node_told p goal ds (Done node) before nodes x t f d k i = bound_told p goal ds (way_to before 0) node x t f d i before (Done node ∷ nodes) k
node_told p goal ds Todo before nodes x t f d k i = inr (record { place = 0; todo = refl; sides = i })

-- ---- the tree

pub tree_told : (p : Problem) (goal : Option Rational) (ds : List Derived) (x : List Rational) → Feasible p x → AllDerived x ds → (nodes : List PartialNode) (k : ℕ) (before : List TreeNode) (n : ℕ) → first_failing (node_tests p goal ds k (ways_to before 0 n) nodes) ≡ None → AllTold p goal before nodes x (ways_to before 0 n)
tree_told p goal ds x f d [] k before zero h = tt
tree_told p goal ds x f d [] k before (suc m) h = cc
tree_told p goal ds x f d (node ∷ nodes) k before zero h = cc
tree_told p goal ds x f d (node ∷ nodes) k before (suc m) h =
    let at : List Side = way_to before 0 in
    let places : List (List Side) = ways_to before 1 m in
    let count : ℕ = length (below (shape node) at) + m in
    let step : below (shape node) at ++ places ≡ ways_to (shape node ∷ before) 0 count = ways_step (shape node) before m in
    let both = passing (record { part = Part.Node k; passes = partial_passes p goal ds at node }) (node_tests p goal ds (k + 1) (below (shape node) at ++ places) nodes) h in
    let behind : first_failing (node_tests p goal ds (k + 1) (ways_to (shape node ∷ before) 0 count) nodes) ≡ None = subst (λ ws. first_failing (node_tests p goal ds (k + 1) ws nodes) ≡ None) step both.1 in
    let told : AllTold p goal (shape node ∷ before) nodes x (below (shape node) at ++ places) = subst (AllTold p goal (shape node ∷ before) nodes x) (sym step) (tree_told p goal ds x f d nodes (k + 1) (shape node ∷ before) count behind) in
    let parts = told_parts p goal before (node ∷ nodes) x (below (shape node) at) places (all_later p goal node before nodes x (below (shape node) at ++ places) told) in
    (node_told p goal ds node before nodes x both.0 f d parts.0, parts.1)
