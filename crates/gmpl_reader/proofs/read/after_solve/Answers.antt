use Rattle.gmpl_reader.proofs.Readings.{is_answer}
use Rattle.gmpl_reader.proofs.read.after_solve.Goals as goal

pub returns : goal.returns
returns c =
    is_answer c.args.rest c.args.problem.now.rows c.args.point.now c.args.duals.now c.deref.result.now c.deref-2.result.now c.deref.ensures.value c.deref-2.ensures.value c.after_solve.result c.after_solve.ensures
