use Rattle.std.proofs.Common.{◌≡◌, ◌≤◌, ◌*◌}
use Rattle.milp.specs.Form.{number_at}
use Rattle.basis.specs.Weights.{items_of, nonzero}
use Rattle.certificate.specs.Written.{next_rank}
use Rattle.gomory.proofs.forms.items.Given as goal

abbrev pub invariant-loop-index : goal.invariant-loop-index
invariant-loop-index l = record {
  done : l.items ≡ items_of (λ v. nonzero (number_at l.list v)) l.first 0 l.index;
  order : next_rank 0 l.items ≤ 2 * l.index;
}
