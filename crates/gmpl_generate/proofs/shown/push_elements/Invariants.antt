-- What is left of the elements.
use Rattle.std.proofs.Common.{◌≡◌, ◌++◌, drop, string_bytes}
use Rattle.gmpl_generate.specs.Shown.{further_text}
use Rattle.gmpl_generate.proofs.shown.push_elements.Given as goal

abbrev pub invariant-loop-element : goal.invariant-loop-element
invariant-loop-element l =
    string_bytes l.initial.made ++ further_text l.elements ≡ string_bytes l.made ++ further_text (drop l.element-index l.elements)
