use Rattle.std.proofs.Common.{◌≡◌, ◌+◌, ◌≤◌, length}
use Rattle.certificate.specs.Values.{version_of}
use Rattle.certificate_reader.specs.Reading.{nodes_at}
use Rattle.certificate_lines.proofs.Fronts.{with_front_of}
use Rattle.certificate_reader.proofs.reading.tree.Given as goal

abbrev pub invariant-loop-open : goal.invariant-loop-open
invariant-loop-open l = record { read : with_front_of l.tree (nodes_at (version_of l.version) l.open l.lines) ≡ nodes_at (version_of l.version) 1 l.initial.lines; few : l.open ≤ l.lines.line + 1 }

abbrev pub decreases-loop-open : goal.decreases-loop-open
decreases-loop-open l = length l.lines.pieces
