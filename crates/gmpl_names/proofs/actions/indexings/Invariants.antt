-- What is gone over, then the rest.
use Rattle.std.proofs.Common.{◌≡◌, map, drop}
use Rattle.gmpl_names.specs.Expressions.{all_from, indexing}
use Rattle.gmpl_names.specs.Statements.{indexings}
use Rattle.gmpl_names.proofs.actions.indexings.Given as goal

abbrev pub invariant-loop-one : goal.invariant-loop-one
invariant-loop-one l = indexings l.objects l.all l.fn.scope ≡ all_from l.made (map (indexing l.objects) (drop l.one-index l.all)) l.scope
