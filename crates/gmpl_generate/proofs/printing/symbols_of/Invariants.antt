-- What is left to evaluate.
use Rattle.std.proofs.Common.{◌≡◌, [], drop}
use Rattle.gmpl_generate.specs.Printing as spec
use Rattle.gmpl_generate.proofs.printing.symbols_of.Given as goal

abbrev pub invariant-loop-part : goal.invariant-loop-part
invariant-loop-part l =
    (spec.symbols_of l.model l.bindings [] l.parts ≡ spec.symbols_of l.model l.bindings l.found.items (drop l.part-index l.parts)) × (l.context ≡ l.model)
