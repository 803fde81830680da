-- The sides of splits on the way to a node.
use Rattle.std.specs.Prelude.{List, [], ◌∷◌, ◌++◌}
use Rattle.verdicts.specs.Certificate.{Side as SideOf}
use Rattle.certificate.specs.Ways.{side_of}
use Rattle.search_node.specs.declared.node.SplitTaken.{SplitTaken}

-- the latest of them first
abbrev pub sides_of : List SplitTaken → List SideOf
sides_of [] = []
sides_of (t ∷ taken) = sides_of taken ++ side_of t.split t.side ∷ []
