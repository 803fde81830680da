use Rattle.std.proofs.Common.{◌≡◌, refl}
use Rattle.glpsol_cli.specs.Stages.{GoesOn, GoesOnPaused, Moment, Stops, pieces_of, texts_in}
use Rattle.glpsol_cli.specs.declared.execution.Executed.{Executed}
use Rattle.glpsol_cli.specs.declared.execution.Halt.TheVariants.{Table}
use Rattle.glpsol_cli.specs.declared.publish.PublishFault.TheVariants.{NoMemory}
use Rattle.glpsol_cli.specs.declared.tables.Run.{Run}
use Rattle.glpsol_cli.proofs.Follow.{ok_also, err_also}
use Rattle.glpsol_cli.proofs.Runs.{files_unwritten, paused, paused_stops}
use Rattle.glpsol_cli.proofs.tables.at_table.Goals as goal

pub returns-in-Ok-clause-run : goal.returns-in-Ok-clause-run
returns-in-Ok-clause-run g c =
    let now : Moment = record { outside = record { taken = g.O.Sink.taken c.args.out.now; told = g.S.Store.told c.args.files.now }; files = g.S.Store.faults c.args.files.now; out = g.O.Sink.faults c.args.out.now } in
    let middle : Moment = record { outside = record { taken = g.O.Sink.taken c.write_pieces.new.out; told = g.S.Store.told c.write_pieces.new.files }; files = g.S.Store.faults c.write_pieces.new.files; out = g.O.Sink.faults c.write_pieces.new.out } in
    let last : Moment = record { outside = record { taken = g.O.Sink.taken c.write_pieces.new.out; told = g.S.Store.told c.read_table.new.files }; files = g.S.Store.faults c.read_table.new.files; out = g.O.Sink.faults c.write_pieces.new.out } in
    let e : Executed = record { files = c.args.made; shown = c.args.shown; halt = Table c.args.waiting } in
    let run : Run = record { inputs = c.args.inputs; executed = e } in
    ok_also c.read_table.result (GoesOnPaused (g.S.Store.told c.write_pieces.new.files) (g.S.Store.faults c.write_pieces.new.files) (g.S.Store.told c.read_table.new.files) (g.S.Store.faults c.read_table.new.files) c.args.inputs (pieces_of c.args.shown.items) c.args.waiting) (GoesOn now last run)
    (λ made h words told start r. h words told start (g.O.Sink.taken c.write_pieces.new.out) (g.O.Sink.faults c.write_pieces.new.out)
    (paused words told start now c.args.inputs.settings (texts_in c.args.inputs) e r middle c.args.waiting refl c.in-Ok.ensures.ends c.write_pieces.ensures.files_later c.write_pieces.ensures.out_later))
    c.read_table.ensures.run

pub returns-in-Ok-clause-unwritten : goal.returns-in-Ok-clause-unwritten
returns-in-Ok-clause-unwritten g c =
    let now : Moment = record { outside = record { taken = g.O.Sink.taken c.args.out.now; told = g.S.Store.told c.args.files.now }; files = g.S.Store.faults c.args.files.now; out = g.O.Sink.faults c.args.out.now } in
    let middle : Moment = record { outside = record { taken = g.O.Sink.taken c.write_pieces.new.out; told = g.S.Store.told c.write_pieces.new.files }; files = g.S.Store.faults c.write_pieces.new.files; out = g.O.Sink.faults c.write_pieces.new.out } in
    let last : Moment = record { outside = record { taken = g.O.Sink.taken c.write_pieces.new.out; told = g.S.Store.told c.read_table.new.files }; files = g.S.Store.faults c.read_table.new.files; out = g.O.Sink.faults c.write_pieces.new.out } in
    let e : Executed = record { files = c.args.made; shown = c.args.shown; halt = Table c.args.waiting } in
    let run : Run = record { inputs = c.args.inputs; executed = e } in
    err_also c.read_table.result (λ fault. fault ≡ NoMemory) (Stops now last run)
    (λ fault is words told start r. paused_stops words told start middle c.args.inputs.settings (texts_in c.args.inputs) (pieces_of c.args.shown.items) c.args.waiting
    (paused words told start now c.args.inputs.settings (texts_in c.args.inputs) e r middle c.args.waiting refl c.in-Ok.ensures.ends c.write_pieces.ensures.files_later c.write_pieces.ensures.out_later)
    (g.S.Store.faults c.read_table.new.files) (g.S.Store.told c.read_table.new.files) c.read_table.ensures.told c.read_table.ensures.later fault is)
    c.read_table.ensures.fault

pub returns-in-Err-clause-unwritten : goal.returns-in-Err-clause-unwritten
returns-in-Err-clause-unwritten g c =
    let now : Moment = record { outside = record { taken = g.O.Sink.taken c.args.out.now; told = g.S.Store.told c.args.files.now }; files = g.S.Store.faults c.args.files.now; out = g.O.Sink.faults c.args.out.now } in
    let middle : Moment = record { outside = record { taken = g.O.Sink.taken c.write_pieces.new.out; told = g.S.Store.told c.write_pieces.new.files }; files = g.S.Store.faults c.write_pieces.new.files; out = g.O.Sink.faults c.write_pieces.new.out } in
    let e : Executed = record { files = c.args.made; shown = c.args.shown; halt = Table c.args.waiting } in
    λ words told start r. files_unwritten words told start now c.args.inputs.settings (texts_in c.args.inputs) e r middle c.in-Err.fault c.write_pieces.ensures.files_later c.write_pieces.ensures.out_later c.in-Err.ensures.failed c.in-Err.ensures.ends
