use Rattle.std.proofs.Common.{◌≡◌, ◌≢◌, ◌<◌, ◌≤◌, ℕ, [], length, get_or}
use Rattle.dictionary.specs.Rows.{IsSubstituted}
use Rattle.dictionary.proofs.dictionary.substitute_all.Given as goal

abbrev pub invariant-loop-i : goal.invariant-loop-i
invariant-loop-i l =
    (length l.rows ≡ length l.initial.rows)
    × ((k : ℕ) → k < l.i → k ≢ l.line → IsSubstituted (get_or l.initial.rows k []) l.solved l.column (get_or l.rows k []))
    × ((k : ℕ) → l.i ≤ k → get_or l.rows k [] ≡ get_or l.initial.rows k [])
