use Rattle.std.proofs.Common.{arith, refl}
use Rattle.outside.specs.Causes.{Rose}
use Rattle.glpsol_cli.specs.Pieces.{Outside}
use Rattle.glpsol_cli.specs.Stages.{texts_in}
use Rattle.glpsol_cli.proofs.Reports.{shown}
use Rattle.glpsol_cli.proofs.Writing.{failed_within}
use Rattle.glpsol_cli.proofs.Carried.{reported_written, subject_asked, unreported_cause, unreported_written}
use Rattle.glpsol_cli.proofs.task.from_finding.Goals as goal

pub publish-published-requires : goal.publish-published-requires
publish-published-requires g c =
    let asked = subject_asked c.args.inputs.now.settings (texts_in c.args.inputs.now) c.args.problem.now c.args.later c.requires.subject in
    rw c.get.ensures (shown c.args.problem.now c.args.inputs.now.settings (texts_in c.args.inputs.now) c.args.finding asked c.requires.found)

pub returns-in-Ok-clause-written : goal.returns-in-Ok-clause-written
returns-in-Ok-clause-written g c =
    let old : Outside = record { taken = g.O.Sink.taken c.args.out.now; told = g.S.Store.told c.args.files.now } in
    let middle : Outside = record { taken = g.O.Sink.taken c.publish-published.new.out; told = g.S.Store.told c.publish-published.new.files } in
    let new : Outside = record { taken = g.O.Sink.taken c.from_report.new.out; told = g.S.Store.told c.from_report.new.files } in
    reported_written c.args.inputs.now.settings (texts_in c.args.inputs.now) c.args.problem.now c.args.later c.requires.subject c.args.finding old middle new c.from_report.result (rw c.get.ensures at c.in-Ok.ensures.published) c.from_report.ensures.written

pub returns-in-Err-clause-cause : goal.returns-in-Err-clause-cause
returns-in-Err-clause-cause g c =
    let old : Outside = record { taken = g.O.Sink.taken c.args.out.now; told = g.S.Store.told c.args.files.now } in
    let middle : Outside = record { taken = g.O.Sink.taken c.publish-published.new.out; told = g.S.Store.told c.publish-published.new.files } in
    unreported_cause c.args.inputs.now.settings (texts_in c.args.inputs.now) c.args.problem.now c.args.later c.requires.subject c.args.finding old middle c.in-Err.fault c.reached.result c.tell_unwritten.result c.tell_unwritten.result c.reached.ensures c.tell_unwritten.ensures.answer refl
    (Rose (g.S.Store.faults c.args.files.now) (g.S.Store.faults c.publish-published.new.files)) (Rose (g.O.Sink.faults c.args.out.now) (g.O.Sink.faults c.tell_unwritten.new.out)) c.requires.found
    (failed_within (g.S.Store.faults c.args.files.now) (g.S.Store.faults c.args.files.now) (g.S.Store.faults c.publish-published.new.files) (g.S.Store.faults c.publish-published.new.files) (omega arith) (omega arith)
    (g.O.Sink.faults c.args.out.now) (g.O.Sink.faults c.args.out.now) (g.O.Sink.faults c.publish-published.new.out) (g.O.Sink.faults c.tell_unwritten.new.out) (omega arith) c.tell_unwritten.ensures.later c.in-Err.fault c.in-Err.ensures.failed)

pub returns-in-Err-clause-written : goal.returns-in-Err-clause-written
returns-in-Err-clause-written g c =
    let old : Outside = record { taken = g.O.Sink.taken c.args.out.now; told = g.S.Store.told c.args.files.now } in
    let middle : Outside = record { taken = g.O.Sink.taken c.publish-published.new.out; told = g.S.Store.told c.publish-published.new.files } in
    unreported_written c.args.inputs.now.settings (texts_in c.args.inputs.now) c.args.problem.now c.args.later c.requires.subject c.args.finding old middle c.in-Err.fault c.reached.result c.tell_unwritten.result c.tell_unwritten.result c.reached.ensures c.tell_unwritten.ensures.answer refl
    (g.O.Sink.taken c.tell_unwritten.new.out) (rw c.get.ensures at c.in-Err.ensures.published) c.tell_unwritten.ensures.line
