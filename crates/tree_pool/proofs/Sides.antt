-- The splits on a way, with their sides.
use Rattle.std.proofs.Common.{◌≡◌, ◌∙◌, List, [], ◌∷◌, ◌++◌, refl, append_assoc}
use Rattle.verdicts.specs.Certificate.{Side as SideOf, Low as LowOf, High as HighOf}
use Rattle.certificate.specs.declared.split.Side.{Side}
use Rattle.certificate.specs.declared.split.Side.TheVariants.{Low, High}
use Rattle.search_node.specs.Sides.{sides_of}
use Rattle.search_tree.specs.Tree.{Tree, Divided, AtLeaf, sides_to}
use Rattle.tree_pool.specs.Places.{taken_to}

pub sides_are : (t : Tree) (way : List Side) (above : List SideOf) → sides_of (taken_to t way) ++ above ≡ sides_to t way above
sides_are (AtLeaf l) [] above = refl
sides_are (Divided s low high) [] above = refl
sides_are (AtLeaf l) (side ∷ way) above = refl
sides_are (Divided s low high) (Low ∷ way) above = append_assoc (sides_of (taken_to low way)) (LowOf s ∷ []) above ∙ sides_are low way (LowOf s ∷ above)
sides_are (Divided s low high) (High ∷ way) above = append_assoc (sides_of (taken_to high way)) (HighOf s ∷ []) above ∙ sides_are high way (HighOf s ∷ above)
