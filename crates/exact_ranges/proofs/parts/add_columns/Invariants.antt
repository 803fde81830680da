use Rattle.std.proofs.Common.{◌≡◌, take}
use Rattle.ranging.specs.PlaceNames.{named_columns}
use Rattle.exact_ranges.proofs.parts.add_columns.Given as goal

abbrev pub invariant-loop-column : goal.invariant-loop-column
invariant-loop-column l = (l.place ≡ l.column-index) × (l.builder ≡ record l.initial.builder { columns = named_columns 0 (take l.column-index l.columns) })
