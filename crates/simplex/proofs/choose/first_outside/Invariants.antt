use Rattle.std.proofs.Common.{◌<◌, ℕ}
use Rattle.milp.specs.Form.{number_at}
use Rattle.basis.specs.Bland.{IsOutside}
use Rattle.simplex.proofs.choose.first_outside.Given as goal

abbrev pub invariant-loop-v : goal.invariant-loop-v
invariant-loop-v l = (k : ℕ) → k < l.v → ¬ (IsOutside l.system l.dictionary.places (number_at l.values) k)
