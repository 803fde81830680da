use Rattle.std.proofs.Common.{◌≡◌, ◌<◌, ℕ, length}
use Rattle.milp.specs.Form.{number_at}
use Rattle.basis.specs.System.{lower_of, upper_of}
use Rattle.basis.specs.Bland.{first_number}
use Rattle.dictionary.proofs.start_values.first_values.Given as goal

abbrev pub invariant-loop-v : goal.invariant-loop-v
invariant-loop-v l = (length l.values.items ≡ l.v) × ((k : ℕ) → k < l.v → number_at l.values.items k ≡ first_number (lower_of l.system k) (upper_of l.system k))
