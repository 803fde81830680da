use Rattle.std.proofs.Common.{◌≤◌, ◌*◌}
use Rattle.certificate.specs.Written.{next_rank}
use Rattle.candidate.proofs.reading.items.Given as goal

abbrev pub invariant-loop-index : goal.invariant-loop-index
invariant-loop-index l = record {
  order : next_rank 0 l.items ≤ 2 * l.index;
}
