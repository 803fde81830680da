use Rattle.std.proofs.Common.{◌<◌, ℕ}
use Rattle.milp.specs.Form.{number_at}
use Rattle.basis.specs.Bland.{Mends}
use Rattle.dictionary.specs.Table.{dictionary_of}
use Rattle.simplex.proofs.choose.first_mending.Given as goal

abbrev pub invariant-loop-q : goal.invariant-loop-q
invariant-loop-q l = (k : ℕ) → k < l.q → ¬ (Mends l.system l.dictionary.places (number_at l.values) (dictionary_of l.dictionary) l.r l.place k)
