use Rattle.std.proofs.Common.{◌≡◌, take}
use Rattle.ranging.specs.PlaceNames.{named_rows}
use Rattle.exact_ranges.proofs.parts.add_rows.Given as goal

abbrev pub invariant-loop-row : goal.invariant-loop-row
invariant-loop-row l = (l.place ≡ l.row-index) × (l.builder ≡ record l.initial.builder { rows = named_rows 0 (take l.row-index l.rows) })
