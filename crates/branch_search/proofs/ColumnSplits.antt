-- The certificates that a search makes are by splits of columns.
use Rattle.std.proofs.Common.{◌≡◌, List, [], ◌∷◌, ◌++◌, refl, sym, subst}
use Rattle.std.specs.List.{AllByRecursion}
use Rattle.milp.specs.Problem.{Problem}
use Rattle.verdicts.specs.Certificate.{Side, Low, High, Derived, TreeNode, Certificate}
use Rattle.basis.specs.Relaxation.{point_certificate}
use Rattle.rational.specs.Rational.{Rational}
use Rattle.search_tree.specs.declared.leaf.Leaf.{Leaf}
use Rattle.search_tree.specs.declared.leaf.Leaf.TheVariants.{Todo, Treated, Leased, Refuted, Bounded, NotFitting, AtLimit}
use Rattle.search_tree.specs.Tree.{Tree, Divided, AtLeaf, AllSplits}
use Rattle.search_tree.specs.Nodes.{IsHonestSplit}
use Rattle.search_tree.specs.Board.{Board}
use Rattle.search_tree.specs.Kept.{IsKept, closed_node}
use Rattle.search_tree.specs.Finished.{one_or_none, nodes_of, certificate_of}
use Rattle.branch_search.specs.Columns.{IsNodeOfColumns, IsBySplitsOfColumns}

both : (xs ys : List TreeNode) → AllByRecursion IsNodeOfColumns xs → AllByRecursion IsNodeOfColumns ys → AllByRecursion IsNodeOfColumns (xs ++ ys)
both [] ys h k = k
both (x ∷ xs) ys h k = (h.0, both xs ys h.1 k)

leaf_nodes : (leaf : Leaf) → AllByRecursion IsNodeOfColumns (one_or_none (closed_node leaf))
leaf_nodes (Todo hint) = tt
leaf_nodes (Treated hint) = tt
leaf_nodes (Leased lease) = tt
leaf_nodes (Refuted w) = (tt, tt)
leaf_nodes (Bounded w) = (tt, tt)
leaf_nodes (NotFitting e) = tt
leaf_nodes (AtLimit bases) = tt

tree_nodes : (p : Problem) (ds : List Derived) (sides : List Side) (t : Tree) → AllSplits (IsHonestSplit p ds) sides t → AllByRecursion IsNodeOfColumns (nodes_of t)
tree_nodes p ds sides (Divided s low high) h = (h.0.form, both (nodes_of low) (nodes_of high) (tree_nodes p ds (Low s ∷ sides) low h.1) (tree_nodes p ds (High s ∷ sides) high h.2))
tree_nodes p ds sides (AtLeaf leaf) h = leaf_nodes leaf

pub board_splits : (b : Board) (c : Certificate) → IsKept b → b.cuts ≡ [] → c ≡ certificate_of b → IsBySplitsOfColumns c
board_splits b c kept cuts is = subst IsBySplitsOfColumns (sym is) (record { derived = cuts; nodes = tree_nodes b.problem b.cuts [] b.tree kept.splits })

pub ray_splits : (p : Problem) (x ray : List Rational) (c : Certificate) → c ≡ point_certificate p x ray → IsBySplitsOfColumns c
ray_splits p x ray c is = subst IsBySplitsOfColumns (sym is) (record { derived = refl; nodes = tt })
