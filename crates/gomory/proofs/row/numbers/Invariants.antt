use Rattle.std.proofs.Common.{◌≡◌, length}
use Rattle.milp.specs.Form.{number_at}
use Rattle.basis.specs.Weights.{numbers_from}
use Rattle.gomory.specs.Numbers.{number_of}
use Rattle.gomory.proofs.row.numbers.Given as goal

abbrev pub invariant-loop-v : goal.invariant-loop-v
invariant-loop-v l = record { size : length l.list.items ≡ l.v; numbers : l.list.items ≡ numbers_from 0 l.v (number_of l.instance l.places (number_at l.rates) (number_at l.at) l.r l.role) }
