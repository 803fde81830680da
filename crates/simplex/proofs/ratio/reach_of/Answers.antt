use Rattle.std.proofs.Common.{rules}
use Rattle.dictionary.proofs.Laws.{err_from, read_number}
use Rattle.simplex.proofs.RatioLemmas.{reach_moves, reach_some, reach_fault}
use Rattle.simplex.proofs.ratio.reach_of.Goals as goal

pub step_to-requires-clause-moves : goal.step_to-requires-clause-moves
step_to-requires-clause-moves c =
    reach_moves c.args.system.now c.args.dictionary.now c.args.values.now c.args.q c.args.rises c.args.v c.bounds.result c.change.result c.turned-rate.result c.bound_ahead.result
    c.change.ensures c.turned-rate.ensures c.bounds.ensures c.bound_ahead.ensures c.in-Some.ahead c.in-Some.is

pub returns-in_err-step-in-Some-clause-err : goal.returns-in_err-step-in-Some-clause-err
returns-in_err-step-in-Some-clause-err c =
    err_from c.from_residual.result c.in_err-step-in-Some.field-0.0 _ c.from_residual.ensures.1
    (reach_fault c.args.system.now c.args.dictionary.now c.args.values.now c.args.q c.args.rises c.args.v c.bounds.result c.change.result c.turned-rate.result c.bound_ahead.result
    c.change.ensures c.turned-rate.ensures c.bounds.ensures c.bound_ahead.ensures c.in-Some.ahead c.index-values-v.result c.in_err-step-in-Some.field-0.0 c.in-Some.is c.requires.known
    (read_number c.args.values.now c.args.v c.index-values-v.result (search rules) c.index-values-v.is) c.in_err-step-in-Some.ensures.err)

pub returns-in_ok-step-in-Some-clause-ok : goal.returns-in_ok-step-in-Some-clause-ok
returns-in_ok-step-in-Some-clause-ok c =
    reach_some c.args.system.now c.args.dictionary.now c.args.values.now c.args.q c.args.rises c.args.v c.bounds.result c.change.result c.turned-rate.result c.bound_ahead.result
    c.change.ensures c.turned-rate.ensures c.bounds.ensures c.bound_ahead.ensures c.in-Some.ahead c.index-values-v.result c.in_ok-step-in-Some.step c.turned.result c.in-Some.is
    (read_number c.args.values.now c.args.v c.index-values-v.result (search rules) c.index-values-v.is) c.in_ok-step-in-Some.ensures.ok c.turned.ensures
