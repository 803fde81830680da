use Rattle.std.proofs.Common.{◌≡◌, ◌≤◌, ◌*◌}
use Rattle.basis.specs.Weights.{items_of}
use Rattle.certificate.specs.Written.{next_rank}
use Rattle.simplex.specs.Sources.{weights_from}
use Rattle.simplex.proofs.weights.items.Given as goal

abbrev pub invariant-loop-index : goal.invariant-loop-index
invariant-loop-index l = record {
  done : l.items ≡ items_of (weights_from l.dictionary l.source) l.first 0 l.index;
  order : next_rank 0 l.items ≤ 2 * l.index;
}
