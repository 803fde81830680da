use Rattle.std.proofs.Common.{◌≡◌, ◌+◌, ◌<◌, ℕ, length}
use Rattle.milp.specs.Form.{number_at}
use Rattle.basis.specs.System.{size}
use Rattle.basis.specs.Bland.{start_point}
use Rattle.dictionary.proofs.start_values.set_forms.Given as goal

abbrev pub invariant-loop-k : goal.invariant-loop-k
invariant-loop-k l = (length l.values ≡ size l.system) × ((v : ℕ) → v < l.columns + l.k → number_at l.values v ≡ start_point l.system v)
