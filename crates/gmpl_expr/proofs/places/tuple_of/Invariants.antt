use Rattle.std.proofs.Common.{◌≡◌, drop, ◌++◌}
use Rattle.gmpl_expr.proofs.places.tuple_of.Given as goal

abbrev pub invariant-loop-symbol : goal.invariant-loop-symbol
invariant-loop-symbol l = l.made ++ drop l.symbol-index l.symbols ≡ l.symbols
