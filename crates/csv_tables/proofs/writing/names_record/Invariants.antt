-- The fields so far, and then the names that are left.
use Rattle.std.proofs.Common.{◌≡◌, ◌++◌, [], drop}
use Rattle.csv.specs.Records.{fields_of, partial_of}
use Rattle.csv_tables.proofs.writing.names_record.Given as goal

abbrev pub invariant-loop-name : goal.invariant-loop-name
invariant-loop-name l = (partial_of l.fields ≡ []) × (l.names ≡ fields_of l.fields ++ drop l.name-index l.names)
