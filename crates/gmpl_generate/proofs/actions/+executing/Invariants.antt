-- What is gone over, then the rest.
use Rattle.std.proofs.Common.{◌≡◌, drop}
use Rattle.gmpl_generate.specs.Running.{made_of}
use Rattle.gmpl_generate.specs.Actions.{actions}
use Rattle.gmpl_generate.specs.Scopes.{over}
use Rattle.gmpl_generate.proofs.actions.+executing.Given as goal

abbrev pub invariant-actions-loop-one : goal.invariant-actions-loop-one
invariant-actions-loop-one l =
    (actions l.model l.all l.bindings (made_of l.fn.so_far) ≡ actions l.model (drop l.one-index l.all) l.bindings (made_of l.so_far)) × (l.context ≡ l.model)

abbrev pub invariant-actions_each-loop-bindings : goal.invariant-actions_each-loop-bindings
invariant-actions_each-loop-bindings l =
    (over (actions l.model l.body) l.scopes.all l.scopes.fault (made_of l.fn.so_far) ≡ over (actions l.model l.body) (drop l.bindings-index l.scopes.all) l.scopes.fault (made_of l.so_far)) × (l.context ≡ l.model)
