use Rattle.std.proofs.Common.{refl}
use Rattle.glpsol_cli.specs.Stages.{at_best, at_fault}
use Rattle.glpsol_cli.specs.declared.answer.Answer.TheVariants.{FaultBehindSolve}
use Rattle.glpsol_cli.proofs.RangedEnds.{told_alone}
use Rattle.glpsol_cli.proofs.behind.at_end.Goals as goal

pub returns-in-None-clause-cause : goal.returns-in-None-clause-cause
returns-in-None-clause-cause g c = at_best c.in-None.is c.end_at_best.ensures.cause

pub returns-in-Some-clause-cause : goal.returns-in-Some-clause-cause
returns-in-Some-clause-cause g c = at_fault c.in-Some.fault c.in-Some.is c.tell.ensures.same

pub returns-in-Some-clause-written : goal.returns-in-Some-clause-written
returns-in-Some-clause-written g c =
    told_alone c.args.settings.now.task (FaultBehindSolve c.in-Some.fault c.args.certificate) c.tell.result c.tell.ensures.same refl refl (g.O.Sink.taken c.args.out.now) (g.O.Sink.taken c.tell.new.out) (g.S.Store.told c.args.files.now) c.tell.ensures.prefix
