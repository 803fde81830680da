-- What falls at each call: how many more tokens may be open, and then the place in a `for`.
use Rattle.std.proofs.Common.{◌≡◌, ◌+◌, ◌-◌, ◌*◌, []}
use Rattle.gmpl_statements.specs.Actions.{action, actions, actions_from}
use Rattle.gmpl_statements.proofs.actions.+actions.Given as goal

abbrev pub decreases-block : goal.decreases-block
decreases-block l = l.reader.depth * 8

abbrev pub decreases-body : goal.decreases-body
decreases-body l = l.reader.depth * 8 + 1

abbrev pub decreases-looped : goal.decreases-looped
decreases-looped l = l.reader.depth * 8 + 2

abbrev pub decreases-action : goal.decreases-action
decreases-action l = l.reader.depth * 8 + 3

abbrev pub decreases-actions : goal.decreases-actions
decreases-actions l = l.reader.depth * 8 + 4

abbrev pub invariant-actions-loop-turn : goal.invariant-actions-loop-turn
invariant-actions-loop-turn l = actions (action l.reader.depth) l.fn.tokens ≡ actions_from (action l.reader.depth) (l._turn-end - l._turn) l.found l.tokens
