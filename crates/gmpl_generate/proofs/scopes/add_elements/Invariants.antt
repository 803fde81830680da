-- What is left of the elements.
use Rattle.std.proofs.Common.{◌≡◌, drop}
use Rattle.gmpl_generate.specs.Scopes.{with_elements}
use Rattle.gmpl_generate.proofs.scopes.add_elements.Given as goal

abbrev pub invariant-loop-element : goal.invariant-loop-element
invariant-loop-element l =
    with_elements l.initial.found l.bindings l.elements ≡ with_elements l.found l.bindings (drop l.element-index l.elements)
