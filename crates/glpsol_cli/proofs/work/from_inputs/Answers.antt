use Rattle.glpsol_cli.specs.Pieces.{Outside}
use Rattle.std.proofs.Common.{◌<◌, length, map, sym, subst, arith}
use Rattle.std.proofs.lemmas.List.{length-map}
use Rattle.outside.specs.Causes.{Rose}
use Rattle.command_line.specs.declared.settings.Settings.{Settings}
use Rattle.glpsol_cli.specs.Stages.{IsExecution, Moment, texts_in}
use Rattle.glpsol_cli.proofs.Ended.{run_first, unexecuted_cause, unexecuted_written}
use Rattle.glpsol_cli.proofs.FilesRead.{enough}
use Rattle.glpsol_cli.proofs.work.from_inputs.Goals as goal
use Rattle.glpsol_cli.proofs.Stories.{unexecuted_tells}

pub execute-requires : goal.execute-requires
execute-requires g c =
    let inputs = c.args.inputs in
    subst (λ (s : Settings). length s.data_files < length c.deref.result.now) (sym c.get.ensures)
    (subst (λ xs. length inputs.settings.data_files < length xs) (sym c.deref.ensures.value)
    (subst (λ n. length inputs.settings.data_files < n) (length-map inputs.texts.items (λ text. text.items))
    (enough c.requires.told inputs.settings (texts_in inputs) c.requires.are.read)))

pub from_execution-requires : goal.from_execution-requires
from_execution-requires g c =
    let now : Moment = record { outside = record { taken = g.O.Sink.taken c.args.out.now; told = g.S.Store.told c.args.files.now }; files = g.S.Store.faults c.args.files.now; out = g.O.Sink.faults c.args.out.now } in (
      c.type_bounds.sync-T,
      record {
        words = c.requires.words;
        told = c.requires.told;
        start = now;
        run = run_first c.requires.words c.requires.told c.args.inputs c.requires.are now c.requires.same now.files (omega arith) c.in-Ok.executed (subst (λ xs. IsExecution c.args.inputs.settings (map (λ text. text.items) xs) c.in-Ok.executed) c.deref.ensures.value (rw c.get.ensures at c.in-Ok.ensures));
      },
    )

pub returns-in-Ok-clause-cause : goal.returns-in-Ok-clause-cause
returns-in-Ok-clause-cause g c =
    let now : Moment = record { outside = record { taken = g.O.Sink.taken c.args.out.now; told = g.S.Store.told c.args.files.now }; files = g.S.Store.faults c.args.files.now; out = g.O.Sink.faults c.args.out.now } in
    λ words told count are same before. c.from_execution.ensures.cause words told (record { outside = now.outside; files = count; out = now.out }) (run_first words told c.args.inputs are now same count before c.in-Ok.executed (subst (λ xs. IsExecution c.args.inputs.settings (map (λ text. text.items) xs) c.in-Ok.executed) c.deref.ensures.value (rw c.get.ensures at c.in-Ok.ensures)))

pub returns-in-Ok-clause-written : goal.returns-in-Ok-clause-written
returns-in-Ok-clause-written g c =
    let now : Moment = record { outside = record { taken = g.O.Sink.taken c.args.out.now; told = g.S.Store.told c.args.files.now }; files = g.S.Store.faults c.args.files.now; out = g.O.Sink.faults c.args.out.now } in
    λ words told are same. c.from_execution.ensures.written words told now (run_first words told c.args.inputs are now same now.files (omega arith) c.in-Ok.executed (subst (λ xs. IsExecution c.args.inputs.settings (map (λ text. text.items) xs) c.in-Ok.executed) c.deref.ensures.value (rw c.get.ensures at c.in-Ok.ensures)))

pub returns-in-Err-clause-cause : goal.returns-in-Err-clause-cause
returns-in-Err-clause-cause g c = λ words told count are same before. unexecuted_cause (Rose count (g.S.Store.faults c.args.files.now)) (Rose (g.O.Sink.faults c.args.out.now) (g.O.Sink.faults c.tell.new.out)) words told c.tell.result c.tell.ensures.same

pub returns-in-Err-clause-written : goal.returns-in-Err-clause-written
returns-in-Err-clause-written g c = λ words told are same. unexecuted_written words told (g.O.Sink.taken c.args.out.now) (g.O.Sink.taken c.tell.new.out) (g.S.Store.told c.args.files.now) c.tell.result c.tell.ensures.same c.tell.ensures.prefix

pub returns-in-Ok-clause-tells : goal.returns-in-Ok-clause-tells
returns-in-Ok-clause-tells g c =
    let now : Moment = record { outside = record { taken = g.O.Sink.taken c.args.out.now; told = g.S.Store.told c.args.files.now }; files = g.S.Store.faults c.args.files.now; out = g.O.Sink.faults c.args.out.now } in
    λ words told count are same before. c.from_execution.ensures.tells words told (record { outside = now.outside; files = count; out = now.out }) (run_first words told c.args.inputs are now same count before c.in-Ok.executed (subst (λ xs. IsExecution c.args.inputs.settings (map (λ text. text.items) xs) c.in-Ok.executed) c.deref.ensures.value (rw c.get.ensures at c.in-Ok.ensures)))

pub returns-in-Err-clause-tells : goal.returns-in-Err-clause-tells
returns-in-Err-clause-tells g c =
    let old : Outside = record { taken = g.O.Sink.taken c.args.out.now; told = g.S.Store.told c.args.files.now } in
    let new : Outside = record { taken = g.O.Sink.taken c.tell.new.out; told = g.S.Store.told c.args.files.now } in
    λ words told count are same before. unexecuted_tells words told old new (Rose count (g.S.Store.faults c.args.files.now)) (Rose (g.O.Sink.faults c.args.out.now) (g.O.Sink.faults c.tell.new.out)) c.tell.result c.tell.ensures.same
