-- The text of a partial certificate: that of a certificate of version 2 with another body.
use Rattle.std.specs.Prelude.{ℕ, List, [], ◌∷◌, ◌++◌, Option, Some, None, codes}
use Rattle.fraction.specs.Text.{text_of}
use Rattle.verdicts.specs.Certificate.{Two}
use Rattle.certificate.specs.Text.{head_text, point_text, counted_rows_text, node_text}
use Rattle.partial_certificate.specs.Partial.{Best, PartialNode, Done, Todo, Partial}

-- the value and the line of the point, where a point was found
abbrev pub best_text : Option Best → List ℕ
best_text None = codes "best none\n"
best_text (Some b) = codes "best " ++ (text_of b.value ++ (codes "\n" ++ point_text (codes "point") (Some b.point)))

abbrev pub partial_node_text : PartialNode → List ℕ
partial_node_text (Done node) = node_text Two node
partial_node_text Todo = codes "todo\n"

abbrev pub partial_tree_text : List PartialNode → List ℕ
partial_tree_text [] = []
partial_tree_text (node ∷ nodes) = partial_node_text node ++ partial_tree_text nodes

abbrev pub partial_shown_text : Partial → List ℕ
partial_shown_text c = best_text c.best ++ (counted_rows_text c.derived ++ (codes "tree\n" ++ partial_tree_text c.tree))

abbrev pub partial_text : Partial → List ℕ
partial_text c = head_text Two c.rows c.columns ++ (codes "verdict undecided\n" ++ (partial_shown_text c ++ codes "end\n"))
