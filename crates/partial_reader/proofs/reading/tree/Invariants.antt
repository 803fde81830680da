use Rattle.std.proofs.Common.{◌≡◌, ◌+◌, ◌≤◌, length}
use Rattle.certificate_lines.proofs.Fronts.{with_front_of}
use Rattle.partial_reader.specs.Reading.{partial_nodes_at}
use Rattle.partial_reader.proofs.reading.tree.Given as goal

abbrev pub invariant-loop-open : goal.invariant-loop-open
invariant-loop-open l = record { read : with_front_of l.tree (partial_nodes_at l.open l.lines) ≡ partial_nodes_at 1 l.initial.lines; few : l.open ≤ l.lines.line + 1 }

abbrev pub decreases-loop-open : goal.decreases-loop-open
decreases-loop-open l = length l.lines.pieces
