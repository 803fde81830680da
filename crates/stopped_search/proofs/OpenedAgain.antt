-- A tree whose leaves that were closed by a value are left to do: it is one whole tree, and its splits are the same.
use Rattle.std.proofs.Common.{◌≡◌, ◌∙◌, ℕ, zero, suc, List, [], ◌∷◌, map, refl, ap}
use Rattle.std.specs.Prelude.{IsTrue}
use Rattle.std.specs.List.{AllByRecursion}
use Rattle.verdicts.specs.Certificate.{Side, Branch, Empty, Bound}
use Rattle.verdicts.specs.Proves.{below}
use Rattle.certificate.specs.Written.{open_after, fills}
use Rattle.partial_certificate.specs.Partial.{PartialNode, Done, Todo, shape}
use Rattle.partial_certificate.specs.Written.{is_whole}
use Rattle.partial_certificate.specs.Columns.{IsOfColumns}
use Rattle.stopped_search.specs.Stopped.{open_again}

-- a node has the same places below it

pub below_again : (node : PartialNode) (sides : List Side) → below (shape (open_again node)) sides ≡ below (shape node) sides
below_again (Done (Branch s)) sides = refl
below_again (Done (Empty w)) sides = refl
below_again (Done (Bound w)) sides = refl
below_again Todo sides = refl

same_opened : (node : PartialNode) (m : ℕ) → open_after (shape (open_again node)) m ≡ open_after (shape node) m
same_opened (Done (Branch s)) m = refl
same_opened (Done (Empty w)) m = refl
same_opened (Done (Bound w)) m = refl
same_opened Todo m = refl

-- the tree is one again

fill : (n : ℕ) (nodes : List PartialNode) → fills n (map shape (map open_again nodes)) ≡ fills n (map shape nodes)
fill zero [] = refl
fill zero (node ∷ nodes) = refl
fill (suc m) [] = refl
fill (suc m) (node ∷ nodes) = ap (λ k. fills k (map shape (map open_again nodes))) (same_opened node m) ∙ fill (open_after (shape node) m) nodes

pub whole_opened : (nodes made : List PartialNode) → made ≡ map open_again nodes → IsTrue (is_whole nodes) → IsTrue (is_whole made)
whole_opened nodes made e h = ap is_whole e ∙ fill 1 nodes ∙ h

-- its splits are of columns

node_columns : (node : PartialNode) → IsOfColumns node → IsOfColumns (open_again node)
node_columns (Done (Branch s)) h = h
node_columns (Done (Empty w)) h = h
node_columns (Done (Bound w)) h = tt
node_columns Todo h = h

pub nodes_columns : (nodes : List PartialNode) → AllByRecursion IsOfColumns nodes → AllByRecursion IsOfColumns (map open_again nodes)
nodes_columns [] h = tt
nodes_columns (node ∷ nodes) h = (node_columns node h.0, nodes_columns nodes h.1)
