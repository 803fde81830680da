-- The whole is what is left to do.
use Rattle.std.proofs.Common.{◌≡◌, ◌+◌, ◌≤◌, length}
use Rattle.model_text.specs.Lines.{lines_of}
use Rattle.mps_reader.specs.FreeMps.{declared_from}
use Rattle.mps_reader.proofs.read.read_lines.Given as goal

abbrev pub invariant-loop-first : goal.invariant-loop-first
invariant-loop-first l =
    (declared_from l.profile 1 l.initial.draft (lines_of l.text) ≡ declared_from l.profile l.line l.draft (lines_of l.rest))
    × (l.line + length l.rest ≤ 1 + length l.text)

abbrev pub decreases-loop-first : goal.decreases-loop-first
decreases-loop-first l = length l.rest
