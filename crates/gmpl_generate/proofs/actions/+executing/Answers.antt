-- A `for`.
use Rattle.gmpl_generate.specs.Running.{made_of}
use Rattle.gmpl_generate.proofs.Looped.{for_at}
use Rattle.gmpl_generate.proofs.actions.+executing.Goals as goal

pub action-returns-in_ok-scopes-in-For-clause-value : goal.action-returns-in_ok-scopes-in-For-clause-value
action-returns-in_ok-scopes-in-For-clause-value t c =
    for_at c.args.model.now c.args.whole.now c.in-For.heads c.as_slice-in-For.result.now c.in-For.body c.as_slice-in-For-2.result.now c.args.bindings.now c.in_ok-scopes-in-For.scopes
    (made_of c.args.so_far.now) (made_of c.actions_each.new.so_far) c.actions_each.result
    c.in-For.is c.as_slice-in-For.ensures c.as_slice-in-For-2.ensures c.in_ok-scopes-in-For.ensures.value c.actions_each.ensures.value
