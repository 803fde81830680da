use Rattle.std.proofs.Common.{◌≡◌, ◌++◌, drop}
use Rattle.gmpl_formats.specs.Pieces.{pieces_behind}
use Rattle.gmpl_formats.proofs.pieces.pieces_of.Given as goal

abbrev pub invariant-loop-place : goal.invariant-loop-place
invariant-loop-place l = l.pieces.items ++ pieces_behind l.behind (drop l.place l.text) ≡ pieces_behind 0 l.text
