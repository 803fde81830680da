-- What is left to lay out.
use Rattle.std.proofs.Common.{◌≡◌, ◌++◌, drop}
use Rattle.gmpl_rows.specs.Named.{AreApart}
use Rattle.gmpl_rows.specs.Problem.{laid_out}
use Rattle.gmpl_rows.proofs.laid.lay_out.Given as goal

abbrev pub invariant-loop-object : goal.invariant-loop-object
invariant-loop-object l =
    (l.laid.items ++ laid_out (drop l.object-index l.declared) l.left ≡ laid_out l.declared l.demanded)
    × (AreApart (drop l.object-index l.declared) l.left → AreApart l.declared l.demanded)
