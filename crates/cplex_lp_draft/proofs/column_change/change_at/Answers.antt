-- The column in its place, changed.
use Rattle.std.proofs.Common.{◌<◌, ◌≤◌, length, sym, rules}
use Rattle.cplex_lp_draft.specs.Changes.{changed}
use Rattle.cplex_lp_draft.proofs.Changed.{changed-got, changed-past, changed-name}
use Rattle.cplex_lp_draft.proofs.column_change.change_at.Goals as goal

pub set-requires-clause-name : goal.set-requires-clause-name
set-requires-clause-name c = rw (c.at-column.ensures, c.apply.ensures) (changed-name c.args.change c.at-column.result)

pub returns-then-place-len : goal.returns-then-place-len
returns-then-place-len c =
    let within : c.args.place < length c.args.columns.now = search rules in
    rw (c.set.ensures, c.apply.ensures) (sym (changed-got c.args.place (changed c.args.change) c.args.columns.now c.at-column.result within c.at-column.ensures))

pub returns-else-place-len : goal.returns-else-place-len
returns-else-place-len c =
    let past : length c.args.columns.now ≤ c.args.place = search rules in
    sym (changed-past c.args.place (changed c.args.change) c.args.columns.now past)
