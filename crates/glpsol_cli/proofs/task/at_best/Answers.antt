use Rattle.std.proofs.Common.{sym, subst}
use Rattle.std.specs.Prelude.{IsSomeAnd}
use Rattle.outside.specs.Causes.{Rose}
use Rattle.verdicts.specs.Certificate.{Certificate}
use Rattle.solution_writer.specs.Report.{IsShownPoint}
use Rattle.glpsol_cli.specs.Pieces.{Outside}
use Rattle.glpsol_cli.specs.Stages.{texts_in}
use Rattle.glpsol_cli.proofs.Carried.{best_point, behind_cause, behind_written, unrun_cause, unrun_written}
use Rattle.glpsol_cli.proofs.task.at_best.Goals as goal

pub afterwards-behind-requires : goal.afterwards-behind-requires
afterwards-behind-requires g c =
    subst (λ (d : Certificate). IsSomeAnd d.point (IsShownPoint c.args.problem.now)) (sym c.get-2.ensures)
    (best_point c.args.inputs.now.settings (texts_in c.args.inputs.now) c.args.problem.now c.args.later c.requires.subject c.args.certificate c.requires.found c.requires.best)

pub end_behind-requires-clause-rangeable : goal.end_behind-requires-clause-rangeable
end_behind-requires-clause-rangeable g c = rw c.get-settings.ensures c.requires.found.4

pub returns-in-Ok-clause-cause : goal.returns-in-Ok-clause-cause
returns-in-Ok-clause-cause g c =
    behind_cause c.args.inputs.now.settings (texts_in c.args.inputs.now) c.args.problem.now c.args.later c.requires.subject c.args.certificate c.requires.found c.requires.best c.in-Ok.behind (rw c.get.ensures at (rw c.get-2.ensures at c.in-Ok.ensures)) (Rose (g.S.Store.faults c.args.files.now) (g.S.Store.faults c.end_behind.new.files)) (Rose (g.O.Sink.faults c.args.out.now) (g.O.Sink.faults c.end_behind.new.out)) c.end_behind.result (rw c.get-settings.ensures at c.end_behind.ensures.cause)

pub returns-in-Ok-clause-written : goal.returns-in-Ok-clause-written
returns-in-Ok-clause-written g c =
    let old : Outside = record { taken = g.O.Sink.taken c.args.out.now; told = g.S.Store.told c.args.files.now } in
    let new : Outside = record { taken = g.O.Sink.taken c.end_behind.new.out; told = g.S.Store.told c.end_behind.new.files } in
    behind_written c.args.inputs.now.settings (texts_in c.args.inputs.now) c.args.problem.now c.args.later c.requires.subject c.args.certificate c.requires.found c.requires.best c.in-Ok.behind (rw c.get.ensures at (rw c.get-2.ensures at c.in-Ok.ensures)) (Rose (g.S.Store.faults c.args.files.now) (g.S.Store.faults c.end_behind.new.files)) (Rose (g.O.Sink.faults c.args.out.now) (g.O.Sink.faults c.end_behind.new.out)) old new c.end_behind.result (rw c.get-settings.ensures at c.end_behind.ensures.cause) (rw c.get-settings.ensures at c.end_behind.ensures.written)

pub returns-in-Err-clause-cause : goal.returns-in-Err-clause-cause
returns-in-Err-clause-cause g c =
    unrun_cause c.args.inputs.now.settings (texts_in c.args.inputs.now) c.args.problem.now c.args.later c.requires.subject c.args.certificate c.requires.found c.requires.best (Rose (g.S.Store.faults c.args.files.now) (g.S.Store.faults c.args.files.now)) (Rose (g.O.Sink.faults c.args.out.now) (g.O.Sink.faults c.tell.new.out)) c.tell.result c.tell.ensures.same

pub returns-in-Err-clause-written : goal.returns-in-Err-clause-written
returns-in-Err-clause-written g c =
    unrun_written c.args.inputs.now.settings (texts_in c.args.inputs.now) c.args.problem.now c.args.later c.requires.subject c.args.certificate c.requires.found c.requires.best (g.O.Sink.taken c.args.out.now) (g.O.Sink.taken c.tell.new.out) (g.S.Store.told c.args.files.now) c.tell.result c.tell.ensures.same c.tell.ensures.prefix
