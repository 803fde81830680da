-- A tree with leaves that are left to do, by the nodes and marks that it is kept as.
use Rattle.std.proofs.Common.{◌≡◌, ℕ, zero, suc, ◌<◌, Bool, true, false, List, [], ◌∷◌, ◌++◌, length, map, get_or, slice_get, Some, refl, sym, ap, arith}
use mathlib.Core.Path.{ap₂}
use Rattle.verdicts.specs.Certificate.{TreeNode, Empty}
use Rattle.partial_certificate.specs.Partial.{PartialNode, no_weights, shape}
use Rattle.partial_certificate.specs.Marks.{marked_node, marked, AreMarks}

-- the nodes in the places of those
pub marked_shapes : (marks : List Bool) (nodes : List TreeNode) → AreMarks marks nodes → nodes ≡ map shape (marked marks nodes)
marked_shapes [] [] h = refl
marked_shapes [] (node ∷ nodes) h = absurd h
marked_shapes (b ∷ bs) [] h = absurd h
marked_shapes (true ∷ bs) (node ∷ nodes) h = ap₂ (λ (x : TreeNode) (xs : List TreeNode). x ∷ xs) h.0 (marked_shapes bs nodes h.1)
marked_shapes (false ∷ bs) (node ∷ nodes) h = ap (λ (xs : List TreeNode). node ∷ xs) (marked_shapes bs nodes h)

pub marked_count : (marks : List Bool) (nodes : List TreeNode) → AreMarks marks nodes → length marks ≡ length (marked marks nodes)
marked_count [] [] h = refl
marked_count [] (node ∷ nodes) h = absurd h
marked_count (b ∷ bs) [] h = absurd h
marked_count (true ∷ bs) (node ∷ nodes) h = ap suc (marked_count bs nodes h.1)
marked_count (false ∷ bs) (node ∷ nodes) h = ap suc (marked_count bs nodes h)

pub nodes_count : (marks : List Bool) (nodes : List TreeNode) → AreMarks marks nodes → length nodes ≡ length (marked marks nodes)
nodes_count [] [] h = refl
nodes_count [] (node ∷ nodes) h = absurd h
nodes_count (b ∷ bs) [] h = absurd h
nodes_count (true ∷ bs) (node ∷ nodes) h = ap suc (nodes_count bs nodes h.1)
nodes_count (false ∷ bs) (node ∷ nodes) h = ap suc (nodes_count bs nodes h)

-- the node at a place
pub marked_at : (marks : List Bool) (nodes : List TreeNode) (place : ℕ) (node : TreeNode) → place < length marks → place < length nodes → node ≡ get_or nodes place node → slice_get (marked marks nodes) place ≡ Some (marked_node (get_or marks place false) node)
marked_at [] nodes place node h k f = absurd (omega arith)
marked_at (c ∷ bs) [] place node h k f = absurd (omega arith)
marked_at (c ∷ bs) (n ∷ nodes) zero node h k f = ap (λ y. Some (marked_node c y)) (sym f)
marked_at (c ∷ bs) (n ∷ nodes) (suc place) node h k f = marked_at bs nodes place node (omega arith) (omega arith) f

-- one more node
pub marked_more : (marks : List Bool) (nodes : List TreeNode) (b : Bool) (node : TreeNode) → AreMarks marks nodes → marked (marks ++ b ∷ []) (nodes ++ node ∷ []) ≡ marked marks nodes ++ marked_node b node ∷ []
marked_more [] [] b node h = refl
marked_more [] (n ∷ nodes) b node h = absurd h
marked_more (c ∷ bs) [] b node h = absurd h
marked_more (true ∷ bs) (n ∷ nodes) b node h = ap (λ (xs : List PartialNode). marked_node true n ∷ xs) (marked_more bs nodes b node h.1)
marked_more (false ∷ bs) (n ∷ nodes) b node h = ap (λ (xs : List PartialNode). marked_node false n ∷ xs) (marked_more bs nodes b node h)

pub done_marks : (marks : List Bool) (nodes : List TreeNode) (node : TreeNode) → AreMarks marks nodes → AreMarks (marks ++ false ∷ []) (nodes ++ node ∷ [])
done_marks [] [] node h = tt
done_marks [] (n ∷ nodes) node h = absurd h
done_marks (c ∷ bs) [] node h = absurd h
done_marks (true ∷ bs) (n ∷ nodes) node h = (h.0, done_marks bs nodes node h.1)
done_marks (false ∷ bs) (n ∷ nodes) node h = done_marks bs nodes node h

pub todo_marks : (marks : List Bool) (nodes : List TreeNode) (node : TreeNode) → node ≡ Empty no_weights → AreMarks marks nodes → AreMarks (marks ++ true ∷ []) (nodes ++ node ∷ [])
todo_marks [] [] node e h = (e, tt)
todo_marks [] (n ∷ nodes) node e h = absurd h
todo_marks (c ∷ bs) [] node e h = absurd h
todo_marks (true ∷ bs) (n ∷ nodes) node e h = (h.0, todo_marks bs nodes node e h.1)
todo_marks (false ∷ bs) (n ∷ nodes) node e h = todo_marks bs nodes node e h
