-- What is left to evaluate.
use Rattle.std.proofs.Common.{◌≡◌, [], drop}
use Rattle.gmpl_generate.specs.OutputTables.{fields_at}
use Rattle.gmpl_generate.proofs.output_tables.fields_at.Given as goal

abbrev pub invariant-loop-column : goal.invariant-loop-column
invariant-loop-column l =
    (fields_at l.model l.bindings [] l.columns ≡ fields_at l.model l.bindings l.found (drop l.column-index l.columns)) × (l.context ≡ l.model)
