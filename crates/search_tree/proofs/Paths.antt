-- The way to the last place of a tree.
use Rattle.std.proofs.Common.{◌≡◌, ◌∙◌, ℕ, suc, ◌+◌, ◌<◌, List, [], ◌∷◌, ◌++◌, length, map, take, take-suc, get_or, reverse, refl, sym, ap, subst, arith}
use Rattle.std.proofs.lemmas.List.{reverse-append, length-map}
use Rattle.verdicts.specs.Certificate.{Split, Side as SideOf, Low as LowOf, High as HighOf, Weights, TreeNode, Branch, Empty}
use Rattle.verdicts.specs.Preorder.{way_to}
use Rattle.certificate.specs.Values.{node_of}
use Rattle.certificate.specs.Written.{IsColumnSplit}
use Rattle.certificate.specs.Ways.{side_of}
use Rattle.certificate.specs.declared.split.Side.{Side}
use Rattle.certificate.specs.declared.split.Side.TheVariants.{Low, High}
use Rattle.certificate.specs.declared.tree.TreeNode.{TreeNode as NodeOf}
use Rattle.search_node.specs.Sides.{sides_of}
use Rattle.search_node.specs.declared.node.SplitTaken.{SplitTaken}
use Rattle.search_tree.specs.Paths.{last_sides}
use Rattle.search_tree.specs.Points.{IsOfColumn, AreOfColumns}

take_all : (nodes : List TreeNode) → take (length nodes) nodes ≡ nodes
take_all [] = refl
take_all (n ∷ nodes) = ap (λ (rest : List TreeNode). n ∷ rest) (take_all nodes)

sides_are : (nodes : List TreeNode) → last_sides nodes ≡ way_to (reverse nodes) 0
sides_are nodes = ap (λ (ns : List TreeNode). way_to (reverse ns) 0) (take_all nodes)

pub low_turn : (nodes : List TreeNode) (s : Split) → last_sides (nodes ++ Branch s ∷ []) ≡ LowOf s ∷ last_sides nodes
low_turn nodes s =
    sides_are (nodes ++ Branch s ∷ []) ∙ ap (λ (ns : List TreeNode). way_to ns 0) (reverse-append nodes (Branch s ∷ []))
    ∙ ap (λ (sides : List SideOf). LowOf s ∷ sides) (sym (sides_are nodes))

pub high_turn : (nodes : List TreeNode) (s : Split) (w : Weights) → last_sides ((nodes ++ Branch s ∷ []) ++ Empty w ∷ []) ≡ HighOf s ∷ last_sides nodes
high_turn nodes s w =
    sides_are ((nodes ++ Branch s ∷ []) ++ Empty w ∷ [])
    ∙ ap (λ (ns : List TreeNode). way_to ns 0) (reverse-append (nodes ++ Branch s ∷ []) (Empty w ∷ []) ∙ ap (λ (ns : List TreeNode). Empty w ∷ ns) (reverse-append nodes (Branch s ∷ [])))
    ∙ ap (λ (sides : List SideOf). HighOf s ∷ sides) (sym (sides_are nodes))

pub sides_more : (taken : List SplitTaken) (t : SplitTaken) → sides_of (taken ++ t ∷ []) ≡ side_of t.split t.side ∷ sides_of taken
sides_more [] t = refl
sides_more (u ∷ taken) t = ap (λ (sides : List SideOf). sides ++ side_of u.split u.side ∷ []) (sides_more taken t)

of_columns : (s : Split) (side : Side) (sides : List SideOf) → IsOfColumn s → AreOfColumns sides → AreOfColumns (side_of s side ∷ sides)
of_columns s Low sides one rest = (one, rest)
of_columns s High sides one rest = (one, rest)

-- one more split of a column, on the tree and in the list
pub one_longer : (s : Split) (side : Side) (here more : List SideOf) (taken pushed : List SplitTaken) → IsColumnSplit s → more ≡ side_of s side ∷ here → pushed ≡ taken ++ (record { split = s; side = side } ∷ []) → AreOfColumns here → here ≡ sides_of taken → AreOfColumns more × (more ≡ sides_of pushed)
one_longer s side here more taken pushed written turned put columns same = (
  subst AreOfColumns (sym turned) (of_columns s side here written.form columns),
  turned ∙ ap (λ (sides : List SideOf). side_of s side ∷ sides) same ∙ sym (sides_more taken (record { split = s; side = side })) ∙ ap sides_of (sym put),
)

-- one more split of the list
pub next_side : (taken : List SplitTaken) (i : ℕ) (t : SplitTaken) → i < length taken → t ≡ get_or taken i t → sides_of (take (i + 1) taken) ≡ side_of t.split t.side ∷ sides_of (take i taken)
next_side taken i t h e =
    let next : i + 1 ≡ suc i = omega arith in
    ap (λ n. sides_of (take n taken)) next ∙ ap sides_of (take-suc taken i t h ∙ ap (λ u. take i taken ++ (u ∷ [])) (sym e)) ∙ sides_more (take i taken) t

pub node_count : (nodes : List NodeOf) (tree : List TreeNode) → map node_of nodes ≡ tree → length tree ≡ length nodes
node_count nodes tree e = ap length (sym e) ∙ length-map nodes node_of
