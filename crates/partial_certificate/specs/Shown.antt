-- The tests of a partial certificate, and what one shows of which all hold.
use Rattle.std.specs.Prelude.{ℕ, ◌+◌, ◌++◌, ◌==◌, ◌&&◌, ◌≡◌, ◌⊎◌, List, [], ◌∷◌, length, map, Bool, true, false, Option, None, Some, slice_get, IfSome}
use Rattle.rational.specs.Rational.{Rational}
use Rattle.rational.specs.Compare.{is_same}
use Rattle.milp.specs.Problem.{Problem}
use Rattle.milp.specs.Points.{Feasible, IsBetter, objective_value}
use Rattle.verdicts.specs.Certificate.{Two, Derived, Side}
use Rattle.verdicts.specs.Proves.{Size, Point, Value, Node, Test, meets, below, node_passes, derived_tests, first_failing, TakesAll}
use Rattle.certificate.specs.Ways.{way}
use Rattle.partial_certificate.specs.Partial.{Best, PartialNode, Done, Todo, Partial, shape}

-- ---- the tests, in order

-- a leaf that is left to do always passes
abbrev pub partial_passes : Problem → Option Rational → List Derived → List Side → PartialNode → Bool
partial_passes p goal ds sides (Done node) = node_passes p Two goal ds sides node
partial_passes p goal ds sides Todo = true

-- the places that are still to be filled are known by the splits on the way to each
abbrev pub node_tests : Problem → Option Rational → List Derived → ℕ → List (List Side) → List PartialNode → List Test
node_tests p goal ds k [] [] = []
node_tests p goal ds k [] (node ∷ nodes) = record { part = Node k; passes = false } ∷ []
node_tests p goal ds k (sides ∷ places) [] = record { part = Node k; passes = false } ∷ []
node_tests p goal ds k (sides ∷ places) (node ∷ nodes) = record { part = Node k; passes = partial_passes p goal ds sides node } ∷ node_tests p goal ds (k + 1) (below (shape node) sides ++ places) nodes

abbrev pub tree_tests : Problem → Option Rational → Partial → List Test
tree_tests p goal c = derived_tests p Two 1 [] c.derived ++ node_tests p goal c.derived 1 ([] ∷ []) c.tree

abbrev pub best_tests : Problem → Partial → Option Best → List Test
best_tests p c None = tree_tests p None c
best_tests p c (Some b) = record { part = Point; passes = meets p b.point } ∷ record { part = Value; passes = is_same b.value (objective_value p b.point) } ∷ tree_tests p (Some b.value) c

abbrev pub tests : Problem → Partial → List Test
tests p c = record { part = Size; passes = (c.rows == length p.rows) && (c.columns == length p.columns) } ∷ best_tests p c c.best

-- all of them hold
abbrev pub Passes : Problem → Partial → Type 0
Passes p c = first_failing (tests p c) ≡ None

-- ---- what is shown

-- the point is feasible, and has the value
pub record IsReached (p : Problem) (b : Best) : Type 0 where
  pub feasible : Feasible p b.point
  pub value : b.value ≡ objective_value p b.point

-- there is a best point, and x is not better
abbrev pub IsNoBetter : Problem → Option Best → List Rational → Type 0
IsNoBetter p None x = ⊥
IsNoBetter p (Some b) x = ¬ (IsBetter p x b.point)

-- x lies at a leaf that is left to do: it is on each side taken on the way there
pub record LiesAtTodo (tree : List PartialNode) (x : List Rational) : Type 0 where
  pub place : ℕ
  pub todo : slice_get tree place ≡ Some Todo
  pub sides : TakesAll x (way (map shape tree) place)

-- the best point is what it is said to be, and a feasible point that is better can only lie at a leaf that is left to do
pub record Shows (p : Problem) (c : Partial) : Type 0 where
  pub best : IfSome c.best (IsReached p)
  pub points : (x : List Rational) → Feasible p x → IsNoBetter p c.best x ⊎ LiesAtTodo c.tree x
