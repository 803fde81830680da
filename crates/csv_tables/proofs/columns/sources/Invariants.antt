-- What is found, and then the names that are left.
use Rattle.std.proofs.Common.{◌≡◌, drop, map}
use Rattle.csv_tables.specs.Reading.{sources_behind, sources_of}
use Rattle.csv_tables.proofs.columns.sources.Given as goal

abbrev pub invariant-loop-name : goal.invariant-loop-name
invariant-loop-name l = sources_of (map (λ t. t.now) l.header) l.names ≡ sources_behind l.found.items (map (λ t. t.now) l.header) (drop l.name-index l.names)
