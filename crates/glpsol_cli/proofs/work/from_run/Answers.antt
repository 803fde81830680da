use Rattle.std.proofs.Common.{refl}
use Rattle.glpsol_cli.specs.Stages.{Moment, texts_in}
use Rattle.glpsol_cli.proofs.Ended.{end_of_whole, unwritten_cause, unwritten_written}
use Rattle.glpsol_cli.proofs.Runs.{unwritten, whole}
use Rattle.glpsol_cli.proofs.work.from_run.Goals as goal
use Rattle.glpsol_cli.proofs.Stories.{unwritten_tells}

pub from_halt-requires : goal.from_halt-requires
from_halt-requires g c =
    let now : Moment = record { outside = record { taken = g.O.Sink.taken c.args.out.now; told = g.S.Store.told c.args.files.now }; files = g.S.Store.faults c.args.files.now; out = g.O.Sink.faults c.args.out.now } in
    let middle : Moment = record { outside = record { taken = g.O.Sink.taken c.write_both.new.out; told = g.S.Store.told c.write_both.new.files }; files = g.S.Store.faults c.write_both.new.files; out = g.O.Sink.faults c.write_both.new.out } in (
      c.type_bounds.sync-T,
      end_of_whole c.requires.run.words c.requires.run.told c.requires.run.start middle c.args.run.inputs.settings (texts_in c.args.run.inputs) c.args.run.executed.halt c.requires.over
          (whole c.requires.run.words c.requires.run.told c.requires.run.start now c.args.run.inputs.settings (texts_in c.args.run.inputs) c.args.run.executed c.requires.run.run middle c.in-Ok.ensures.ends c.write_both.ensures.files_later c.write_both.ensures.out_later),
    )

pub returns-in-Ok-clause-cause : goal.returns-in-Ok-clause-cause
returns-in-Ok-clause-cause g c =
    let now : Moment = record { outside = record { taken = g.O.Sink.taken c.args.out.now; told = g.S.Store.told c.args.files.now }; files = g.S.Store.faults c.args.files.now; out = g.O.Sink.faults c.args.out.now } in
    let middle : Moment = record { outside = record { taken = g.O.Sink.taken c.write_both.new.out; told = g.S.Store.told c.write_both.new.files }; files = g.S.Store.faults c.write_both.new.files; out = g.O.Sink.faults c.write_both.new.out } in
    λ words told start run. c.from_halt.ensures.cause words told start (whole words told start now c.args.run.inputs.settings (texts_in c.args.run.inputs) c.args.run.executed run middle c.in-Ok.ensures.ends c.write_both.ensures.files_later c.write_both.ensures.out_later)

pub returns-in-Ok-clause-written : goal.returns-in-Ok-clause-written
returns-in-Ok-clause-written g c =
    let now : Moment = record { outside = record { taken = g.O.Sink.taken c.args.out.now; told = g.S.Store.told c.args.files.now }; files = g.S.Store.faults c.args.files.now; out = g.O.Sink.faults c.args.out.now } in
    let middle : Moment = record { outside = record { taken = g.O.Sink.taken c.write_both.new.out; told = g.S.Store.told c.write_both.new.files }; files = g.S.Store.faults c.write_both.new.files; out = g.O.Sink.faults c.write_both.new.out } in
    λ words told start run. c.from_halt.ensures.written words told start (whole words told start now c.args.run.inputs.settings (texts_in c.args.run.inputs) c.args.run.executed run middle c.in-Ok.ensures.ends c.write_both.ensures.files_later c.write_both.ensures.out_later)

pub returns-in-Err-clause-cause : goal.returns-in-Err-clause-cause
returns-in-Err-clause-cause g c =
    let now : Moment = record { outside = record { taken = g.O.Sink.taken c.args.out.now; told = g.S.Store.told c.args.files.now }; files = g.S.Store.faults c.args.files.now; out = g.O.Sink.faults c.args.out.now } in
    let middle : Moment = record { outside = record { taken = g.O.Sink.taken c.write_both.new.out; told = g.S.Store.told c.write_both.new.files }; files = g.S.Store.faults c.write_both.new.files; out = g.O.Sink.faults c.write_both.new.out } in
    λ words told start run. unwritten_cause words told start middle c.in-Err.fault (unwritten words told start now c.args.run.inputs.settings (texts_in c.args.run.inputs) c.args.run.executed run middle c.in-Err.fault c.write_both.ensures.files_later c.write_both.ensures.out_later c.in-Err.ensures.failed c.in-Err.ensures.ends)
    c.tell_unwritten.result c.tell_unwritten.result c.tell_unwritten.ensures.answer refl (g.O.Sink.faults c.tell_unwritten.new.out) c.tell_unwritten.ensures.later

pub returns-in-Err-clause-written : goal.returns-in-Err-clause-written
returns-in-Err-clause-written g c =
    let now : Moment = record { outside = record { taken = g.O.Sink.taken c.args.out.now; told = g.S.Store.told c.args.files.now }; files = g.S.Store.faults c.args.files.now; out = g.O.Sink.faults c.args.out.now } in
    let middle : Moment = record { outside = record { taken = g.O.Sink.taken c.write_both.new.out; told = g.S.Store.told c.write_both.new.files }; files = g.S.Store.faults c.write_both.new.files; out = g.O.Sink.faults c.write_both.new.out } in
    λ words told start run. unwritten_written words told start middle c.in-Err.fault (unwritten words told start now c.args.run.inputs.settings (texts_in c.args.run.inputs) c.args.run.executed run middle c.in-Err.fault c.write_both.ensures.files_later c.write_both.ensures.out_later c.in-Err.ensures.failed c.in-Err.ensures.ends)
    c.tell_unwritten.result c.tell_unwritten.result c.tell_unwritten.ensures.answer refl (g.O.Sink.taken c.tell_unwritten.new.out) c.tell_unwritten.ensures.line

pub returns-in-Ok-clause-tells : goal.returns-in-Ok-clause-tells
returns-in-Ok-clause-tells g c =
    let now : Moment = record { outside = record { taken = g.O.Sink.taken c.args.out.now; told = g.S.Store.told c.args.files.now }; files = g.S.Store.faults c.args.files.now; out = g.O.Sink.faults c.args.out.now } in
    let middle : Moment = record { outside = record { taken = g.O.Sink.taken c.write_both.new.out; told = g.S.Store.told c.write_both.new.files }; files = g.S.Store.faults c.write_both.new.files; out = g.O.Sink.faults c.write_both.new.out } in
    λ words told start run. c.from_halt.ensures.tells words told start (whole words told start now c.args.run.inputs.settings (texts_in c.args.run.inputs) c.args.run.executed run middle c.in-Ok.ensures.ends c.write_both.ensures.files_later c.write_both.ensures.out_later)

pub returns-in-Err-clause-tells : goal.returns-in-Err-clause-tells
returns-in-Err-clause-tells g c =
    let now : Moment = record { outside = record { taken = g.O.Sink.taken c.args.out.now; told = g.S.Store.told c.args.files.now }; files = g.S.Store.faults c.args.files.now; out = g.O.Sink.faults c.args.out.now } in
    let middle : Moment = record { outside = record { taken = g.O.Sink.taken c.write_both.new.out; told = g.S.Store.told c.write_both.new.files }; files = g.S.Store.faults c.write_both.new.files; out = g.O.Sink.faults c.write_both.new.out } in
    λ words told start run. unwritten_tells words told start middle c.in-Err.fault (unwritten words told start now c.args.run.inputs.settings (texts_in c.args.run.inputs) c.args.run.executed run middle c.in-Err.fault c.write_both.ensures.files_later c.write_both.ensures.out_later c.in-Err.ensures.failed c.in-Err.ensures.ends)
    c.tell_unwritten.result c.tell_unwritten.result c.tell_unwritten.ensures.answer refl (g.O.Sink.faults c.tell_unwritten.new.out) (g.O.Sink.taken c.tell_unwritten.new.out) c.tell_unwritten.ensures.later c.tell_unwritten.ensures.line
