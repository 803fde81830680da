use Rattle.std.proofs.Common.{◌≡◌, ◌≤◌, ◌+◌, drop}
use Rattle.instance.specs.WellFormed.{entry_count}
use Rattle.exact_ranges.proofs.parts.has_too_many_entries.Given as goal

abbrev pub invariant-loop-row : goal.invariant-loop-row
invariant-loop-row l = (l.count ≤ 20000000) × (entry_count l.rows ≡ l.count + entry_count (drop l.row-index l.rows))
