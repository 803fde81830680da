use Rattle.std.proofs.Common.{◌≡◌, ◌<◌, ℕ, [], length, get_or}
use Rattle.dictionary.specs.Start.{IsDense}
use Rattle.dictionary.proofs.start.rows_of.Given as goal

abbrev pub invariant-loop-form : goal.invariant-loop-form
invariant-loop-form l = (length l.rows.items ≡ l.form-index) × ((k : ℕ) → k < l.form-index → IsDense l.columns (get_or l.forms k []) (get_or l.rows.items k []))
