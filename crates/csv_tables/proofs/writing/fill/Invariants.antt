-- The fields so far, and then those of the rest.
use Rattle.std.proofs.Common.{◌≡◌, ◌++◌, [], drop, map}
use Rattle.csv.specs.Records.{fields_of, partial_of}
use Rattle.csv_tables.specs.Writing.{field_of}
use Rattle.csv_tables.proofs.writing.fill.Given as goal

abbrev pub invariant-loop-symbol : goal.invariant-loop-symbol
invariant-loop-symbol l = (partial_of l.fields ≡ []) × (map field_of l.row ≡ fields_of l.fields ++ map field_of (drop l.symbol-index l.row))
