-- What is left of the components.
use Rattle.std.proofs.Common.{◌≡◌, ◌++◌, drop, string_bytes}
use Rattle.gmpl_generate.specs.Shown.{components_text}
use Rattle.gmpl_generate.proofs.shown.push_components.Given as goal

abbrev pub invariant-loop-symbol : goal.invariant-loop-symbol
invariant-loop-symbol l =
    string_bytes l.initial.made ++ components_text l.symbols ≡ string_bytes l.made ++ components_text (drop l.symbol-index l.symbols)
