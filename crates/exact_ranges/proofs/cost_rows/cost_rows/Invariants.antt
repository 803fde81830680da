use Rattle.std.proofs.Common.{◌≡◌, ◌++◌, drop}
use Rattle.exact_ranges.specs.CostParts.{rows_from}
use Rattle.exact_ranges.proofs.cost_rows.cost_rows.Given as goal

abbrev pub invariant-loop-at : goal.invariant-loop-at
invariant-loop-at l = (l.place ≡ l.at-index) × (rows_from l.direction l.unknown 0 l.table ≡ l.rows.items ++ rows_from l.direction l.unknown l.at-index (drop l.at-index l.table))
