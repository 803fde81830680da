use Rattle.std.proofs.Common.{rules}
use Rattle.dictionary.proofs.RowNumbers.{err_from, read_number}
use Rattle.dictionary.proofs.MoveLemmas.{move_fault}
use Rattle.dictionary.proofs.moves.move_variables.Goals as goal

pub returns-in_err-values-clause-err : goal.returns-in_err-values-clause-err
returns-in_err-values-clause-err c =
    err_from c.from_residual.result c.in_err-values.field-0.0 _ c.from_residual.ensures.1
    (move_fault c.args.dictionary.now c.args.q c.args.by c.args.values.now c.loop-v.values c.loop-v.v c.index-values-v.result c.in_err-values.field-0.0 c.loop-v-test.true c.loop-v.invariant.0 c.loop-v.invariant.2
    (read_number c.loop-v.values c.loop-v.v c.index-values-v.result (search rules) c.index-values-v.is) c.in_err-values.ensures.err)
