use Rattle.std.proofs.Common.{◌∙◌, refl, sym, ap, subst}
use Rattle.outside.specs.Causes.{Rose}
use Rattle.glpsol_cli.specs.Stages.{IsRun, IsStopAt, Moment, pieces_of, texts_in}
use Rattle.glpsol_cli.specs.declared.execution.Executed.{Executed}
use Rattle.glpsol_cli.specs.declared.execution.Halt.TheVariants.{Unread}
use Rattle.glpsol_cli.specs.declared.tables.Run.{Run}
use Rattle.glpsol_cli.proofs.Runs.{run_on, run_unread}
use Rattle.glpsol_cli.proofs.Left.{next_executed, next_unread}
use Rattle.glpsol_cli.proofs.tables.read_table.Goals as goal

pub returns-in-Ok-executed_on-clause-run : goal.returns-in-Ok-executed_on-clause-run
returns-in-Ok-executed_on-clause-run g c = λ words told start taken out paused.
    run_on words told start (record { outside = record { taken = taken; told = g.S.Store.told c.args.files.now }; files = g.S.Store.faults c.args.files.now; out = out }) c.args.inputs (pieces_of c.args.shown.items) c.args.waiting paused
    (g.S.Store.faults c.load.new.files) (g.S.Store.told c.load.new.files) c.load.ensures.told c.load.ensures.later c.in-Ok-executed_on.run'.inputs c.in-Ok-executed_on.run'.executed c.in-Ok-load.text.items c.in-Ok.name
    c.in-Ok.ensures c.in-Ok-load.ensures.text c.in-Ok-executed_on.ensures

pub returns-in-Err-File-clause-run : goal.returns-in-Err-File-clause-run
returns-in-Err-File-clause-run g c = λ words told start taken out paused.
    let now : Moment = record { outside = record { taken = taken; told = g.S.Store.told c.args.files.now }; files = g.S.Store.faults c.args.files.now; out = out } in
    let later : Moment = record { outside = record { taken = taken; told = g.S.Store.told c.load.new.files }; files = g.S.Store.faults c.load.new.files; out = out } in
    let stop = subst (IsStopAt c.in-Ok.name (g.S.Store.told c.args.files.now) (Rose (g.S.Store.faults c.args.files.now) (g.S.Store.faults c.load.new.files))) c.in-Err-File.field-0-is c.in-Err-File.ensures.stop in
    let e : Executed = record { files = c.new.result; shown = c.args.shown; halt = Unread c.in-Err-File.unread } in
    subst (λ (run : Run). IsRun words told start later run.inputs.settings (texts_in run.inputs) run.executed) (sym c.run_at.ensures)
    (run_unread words told start now c.args.inputs.settings (texts_in c.args.inputs) (pieces_of c.args.shown.items) c.args.waiting paused (g.S.Store.faults c.load.new.files) (g.S.Store.told c.load.new.files) c.load.ensures.told c.load.ensures.later
    e c.in-Err-File.unread refl (ap pieces_of c.new.ensures.items) refl (stop.0 ∙ c.in-Ok.ensures) stop.1)

pub returns-in-Ok-executed_on-clause-next : goal.returns-in-Ok-executed_on-clause-next
returns-in-Ok-executed_on-clause-next g c = next_executed c.args.inputs c.args.waiting c.in-Ok-load.text.items c.in-Ok-executed_on.run' c.requires c.in-Ok-executed_on.ensures

pub returns-in-Err-File-clause-next : goal.returns-in-Err-File-clause-next
returns-in-Err-File-clause-next g c = next_unread c.args.waiting c.run_at.result (Unread c.in-Err-File.unread) (ap (λ (run : Run). run.executed.halt) c.run_at.ensures) refl tt
