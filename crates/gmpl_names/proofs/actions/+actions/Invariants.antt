-- What is gone over, then the rest.
use Rattle.std.proofs.Common.{◌≡◌, map, drop}
use Rattle.gmpl_names.specs.Statements.{action, actions, in_turn_from}
use Rattle.gmpl_names.proofs.actions.+actions.Given as goal

abbrev pub invariant-actions-loop-one : goal.invariant-actions-loop-one
invariant-actions-loop-one l = actions l.objects l.all l.fn.scope l.fn.tables ≡ in_turn_from l.made (map (action l.objects) (drop l.one-index l.all)) l.scope l.tables
