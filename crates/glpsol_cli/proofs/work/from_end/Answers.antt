use Rattle.std.proofs.Common.{subst}
use Rattle.outside.specs.Causes.{Rose}
use Rattle.glpsol_cli.specs.Stages.{IsEndIn, texts_in}
use Rattle.glpsol_cli.proofs.Carried.{refused_cause, refused_written, subject_of}
use Rattle.glpsol_cli.proofs.work.from_end.Goals as goal

pub at_problem-requires : goal.at_problem-requires
at_problem-requires g c = (
  c.type_bounds.sync-T,
  subject_of c.args.inputs.now.settings (texts_in c.args.inputs.now) c.in-Problem.problem c.in-Problem.later (subst (IsEndIn c.args.inputs.now.settings (texts_in c.args.inputs.now)) c.in-Problem.is c.requires),
)

pub returns-in-Fault-clause-cause : goal.returns-in-Fault-clause-cause
returns-in-Fault-clause-cause g c =
    refused_cause c.args.inputs.now.settings (texts_in c.args.inputs.now) c.in-Fault.fault (Rose (g.S.Store.faults c.args.files.now) (g.S.Store.faults c.args.files.now)) (Rose (g.O.Sink.faults c.args.out.now) (g.O.Sink.faults c.tell.new.out)) c.tell.result
    (subst (IsEndIn c.args.inputs.now.settings (texts_in c.args.inputs.now)) c.in-Fault.is c.requires) c.tell.ensures.same

pub returns-in-Fault-clause-written : goal.returns-in-Fault-clause-written
returns-in-Fault-clause-written g c =
    refused_written c.args.inputs.now.settings (texts_in c.args.inputs.now) c.in-Fault.fault (g.O.Sink.taken c.args.out.now) (g.O.Sink.taken c.tell.new.out) (g.S.Store.told c.args.files.now) c.tell.result c.tell.ensures.same c.tell.ensures.prefix
