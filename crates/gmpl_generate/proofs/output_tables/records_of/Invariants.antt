-- What is left to go over.
use Rattle.std.proofs.Common.{◌≡◌, [], drop}
use Rattle.gmpl_generate.specs.OutputTables.{records_of}
use Rattle.gmpl_generate.proofs.output_tables.records_of.Given as goal

abbrev pub invariant-loop-bindings : goal.invariant-loop-bindings
invariant-loop-bindings l =
    (records_of l.model l.columns [] l.scopes.all l.scopes.fault ≡ records_of l.model l.columns l.found.items (drop l.bindings-index l.scopes.all) l.scopes.fault) × (l.context ≡ l.model)
