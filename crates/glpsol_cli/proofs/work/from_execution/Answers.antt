use Rattle.std.proofs.Common.{refl}
use Rattle.glpsol_cli.specs.Stages.{Moment, texts_in}
use Rattle.glpsol_cli.proofs.Ended.{unwritten_cause, unwritten_written}
use Rattle.glpsol_cli.proofs.Left.{halts_so}
use Rattle.glpsol_cli.proofs.work.from_execution.Goals as goal
use Rattle.glpsol_cli.proofs.Stories.{unwritten_tells}

pub with_tables-requires : goal.with_tables-requires
with_tables-requires g c =
    let now : Moment = record { outside = record { taken = g.O.Sink.taken c.args.out.now; told = g.S.Store.told c.args.files.now }; files = g.S.Store.faults c.args.files.now; out = g.O.Sink.faults c.args.out.now } in
    halts_so c.requires.words c.requires.told c.requires.start now c.args.inputs.settings (texts_in c.args.inputs) c.args.executed c.requires.run

pub from_run-requires-clause-run : goal.from_run-requires-clause-run
from_run-requires-clause-run g c κs lives = record {
  words = c.requires.words;
  told = c.requires.told;
  start = c.requires.start;
  run = c.in-Ok.ensures.run c.requires.words c.requires.told c.requires.start c.requires.run;
}

pub returns-in-Ok-clause-cause : goal.returns-in-Ok-clause-cause
returns-in-Ok-clause-cause g c = λ words told start run. c.from_run.ensures.cause words told start (c.in-Ok.ensures.run words told start run)

pub returns-in-Ok-clause-written : goal.returns-in-Ok-clause-written
returns-in-Ok-clause-written g c = λ words told start run. c.from_run.ensures.written words told start (c.in-Ok.ensures.run words told start run)

pub returns-in-Err-clause-cause : goal.returns-in-Err-clause-cause
returns-in-Err-clause-cause g c =
    let middle : Moment = record { outside = record { taken = g.O.Sink.taken c.with_tables.new.out; told = g.S.Store.told c.with_tables.new.files }; files = g.S.Store.faults c.with_tables.new.files; out = g.O.Sink.faults c.with_tables.new.out } in
    λ words told start run. unwritten_cause words told start middle c.in-Err.fault (c.in-Err.ensures.unwritten words told start run) c.tell_unwritten.result c.tell_unwritten.result c.tell_unwritten.ensures.answer refl (g.O.Sink.faults c.tell_unwritten.new.out) c.tell_unwritten.ensures.later

pub returns-in-Err-clause-written : goal.returns-in-Err-clause-written
returns-in-Err-clause-written g c =
    let middle : Moment = record { outside = record { taken = g.O.Sink.taken c.with_tables.new.out; told = g.S.Store.told c.with_tables.new.files }; files = g.S.Store.faults c.with_tables.new.files; out = g.O.Sink.faults c.with_tables.new.out } in
    λ words told start run. unwritten_written words told start middle c.in-Err.fault (c.in-Err.ensures.unwritten words told start run) c.tell_unwritten.result c.tell_unwritten.result c.tell_unwritten.ensures.answer refl (g.O.Sink.taken c.tell_unwritten.new.out) c.tell_unwritten.ensures.line

pub returns-in-Ok-clause-tells : goal.returns-in-Ok-clause-tells
returns-in-Ok-clause-tells g c = λ words told start run. c.from_run.ensures.tells words told start (c.in-Ok.ensures.run words told start run)

pub returns-in-Err-clause-tells : goal.returns-in-Err-clause-tells
returns-in-Err-clause-tells g c =
    let middle : Moment = record { outside = record { taken = g.O.Sink.taken c.with_tables.new.out; told = g.S.Store.told c.with_tables.new.files }; files = g.S.Store.faults c.with_tables.new.files; out = g.O.Sink.faults c.with_tables.new.out } in
    λ words told start run. unwritten_tells words told start middle c.in-Err.fault (c.in-Err.ensures.unwritten words told start run) c.tell_unwritten.result c.tell_unwritten.result c.tell_unwritten.ensures.answer refl (g.O.Sink.faults c.tell_unwritten.new.out) (g.O.Sink.taken c.tell_unwritten.new.out) c.tell_unwritten.ensures.later c.tell_unwritten.ensures.line
