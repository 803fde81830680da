-- The symbols so far, and then those of the rest.
use Rattle.std.proofs.Common.{◌≡◌, ◌++◌, drop, map}
use Rattle.csv_tables.specs.Reading.{value_of}
use Rattle.csv_tables.proofs.rows.symbols.Given as goal

abbrev pub invariant-loop-source : goal.invariant-loop-source
invariant-loop-source l =
    map (value_of l.before (map (λ t. t.now) l.texts)) l.sources ≡ l.made ++ map (value_of l.before (map (λ t. t.now) l.texts)) (drop l.source-index l.sources)
