use Rattle.std.proofs.Common.{◌≡◌, drop}
use Rattle.gmpl_expr.specs.At as at
use Rattle.gmpl_meaning.specs.Expressions as spec
use Rattle.gmpl_expr.proofs.set_kinds.is_indexed.Given as goal

abbrev pub invariant-loop-entry : goal.invariant-loop-entry
invariant-loop-entry l = spec.is_indexed (at.entries l.model l.height l.entries) ≡ spec.is_indexed (at.entries l.model l.height (drop l.entry-index l.entries))
