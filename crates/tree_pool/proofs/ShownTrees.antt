-- The tree of a board's partial certificate.
use Rattle.std.proofs.Common.{◌≡◌, ◌∙◌, ℕ, zero, suc, List, [], ◌∷◌, ◌++◌, map, true, refl, sym, ap, append_assoc, append-nil}
use Rattle.std.specs.List.{AllByRecursion}
use Rattle.std.proofs.lemmas.List.{map-append}
use mathlib.Core.Path.{ap₂}
use Rattle.milp.specs.Problem.{Problem}
use Rattle.verdicts.specs.Certificate.{Branch, Side as SideOf, Low, High, Derived}
use Rattle.certificate.specs.Written.{fills}
use Rattle.partial_certificate.specs.Partial.{PartialNode, Done, shape}
use Rattle.partial_certificate.specs.Written.{is_whole}
use Rattle.partial_certificate.specs.Columns.{IsOfColumns}
use Rattle.search_tree.specs.declared.leaf.Leaf.TheVariants.{Todo, Treated, Leased, Refuted, Bounded, NotFitting, AtLimit}
use Rattle.search_tree.specs.declared.leaf.Slot.{Slot}
use Rattle.search_tree.specs.Tree.{Tree, Divided, AtLeaf, AllSplits}
use Rattle.search_tree.specs.Slots.{slots_of}
use Rattle.search_tree.specs.Nodes.{IsHonestSplit}
use Rattle.tree_pool.specs.Ledger.{closed_in}
use Rattle.tree_pool.specs.Shown.{done_or_todo, shown_nodes, shown_slots}

-- ---- it is read from the preorder

shown_is : (t : Tree) → shown_slots (slots_of t) ≡ shown_nodes t
shown_is (AtLeaf leaf) = refl
shown_is (Divided s low high) =
    ap (λ (nodes : List PartialNode). Done (Branch s) ∷ nodes)
    (map-append (λ x. done_or_todo (closed_in x)) (slots_of low) (slots_of high) ∙ ap₂ (λ (xs ys : List PartialNode). xs ++ ys) (shown_is low) (shown_is high))

pub shown_in : (slots : List Slot) (t : Tree) → slots ≡ slots_of t → shown_slots slots ≡ shown_nodes t
shown_in slots t are = ap shown_slots are ∙ shown_is t

-- ---- it is one whole tree

fills_then : (t : Tree) (more : ℕ) (rest : List PartialNode) → fills (suc more) (map shape (shown_nodes t ++ rest)) ≡ fills more (map shape rest)
fills_then (AtLeaf (Todo hint)) more rest = refl
fills_then (AtLeaf (Treated hint)) more rest = refl
fills_then (AtLeaf (Leased lease)) more rest = refl
fills_then (AtLeaf (Refuted w)) more rest = refl
fills_then (AtLeaf (Bounded w)) more rest = refl
fills_then (AtLeaf (NotFitting e)) more rest = refl
fills_then (AtLeaf (AtLimit bases)) more rest = refl
fills_then (Divided s low high) more rest =
    ap (λ (nodes : List PartialNode). fills (suc (suc more)) (map shape nodes)) (append_assoc (shown_nodes low) (shown_nodes high) rest)
    ∙ fills_then low (suc more) (shown_nodes high ++ rest) ∙ fills_then high more rest

pub shown_whole : (t : Tree) → is_whole (shown_nodes t) ≡ true
shown_whole t = ap (λ (nodes : List PartialNode). fills 1 (map shape nodes)) (sym (append-nil (shown_nodes t))) ∙ fills_then t zero []

-- ---- its splits are of columns

columns_both : (xs ys : List PartialNode) → AllByRecursion IsOfColumns xs → AllByRecursion IsOfColumns ys → AllByRecursion IsOfColumns (xs ++ ys)
columns_both [] ys h k = k
columns_both (x ∷ xs) ys h k = (h.0, columns_both xs ys h.1 k)

pub of_columns : (p : Problem) (ds : List Derived) (t : Tree) (sides : List SideOf) → AllSplits (IsHonestSplit p ds) sides t → AllByRecursion IsOfColumns (shown_nodes t)
of_columns p ds (AtLeaf (Todo hint)) sides h = (tt, tt)
of_columns p ds (AtLeaf (Treated hint)) sides h = (tt, tt)
of_columns p ds (AtLeaf (Leased lease)) sides h = (tt, tt)
of_columns p ds (AtLeaf (Refuted w)) sides h = (tt, tt)
of_columns p ds (AtLeaf (Bounded w)) sides h = (tt, tt)
of_columns p ds (AtLeaf (NotFitting e)) sides h = (tt, tt)
of_columns p ds (AtLeaf (AtLimit bases)) sides h = (tt, tt)
of_columns p ds (Divided s low high) sides h = (h.0.form, columns_both (shown_nodes low) (shown_nodes high) (of_columns p ds low (Low s ∷ sides) h.1) (of_columns p ds high (High s ∷ sides) h.2))
