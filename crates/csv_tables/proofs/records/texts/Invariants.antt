-- The texts so far, and the fields that are left.
use Rattle.std.proofs.Common.{map}
use Rattle.csv.specs.Records.{fields_of}
use Rattle.csv_tables.proofs.Texts.{AreTexts}
use Rattle.csv_tables.proofs.records.texts.Given as goal

abbrev pub invariant-loop-place : goal.invariant-loop-place
invariant-loop-place l = AreTexts (map (λ t. t.now) l.found.items) (fields_of l.fields) l.place
