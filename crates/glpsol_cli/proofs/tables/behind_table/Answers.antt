use Rattle.std.proofs.Common.{subst, sym}
use Rattle.std.specs.Prelude.{IfOk, IfErr}
use Rattle.glpsol_cli.specs.Stages.{GoesOn, Moment, Stops}
use Rattle.glpsol_cli.specs.declared.execution.Halt.TheVariants.{End, Table, Unread}
use Rattle.glpsol_cli.proofs.Runs.{goes_on_same, same_run}
use Rattle.glpsol_cli.specs.Left.{IsNextOf, IsSomeHalt}
use Rattle.glpsol_cli.proofs.tables.behind_table.Goals as goal

pub returns-in-Table-clause-run : goal.returns-in-Table-clause-run
returns-in-Table-clause-run g c =
    let now : Moment = record { outside = record { taken = g.O.Sink.taken c.args.out.now; told = g.S.Store.told c.args.files.now }; files = g.S.Store.faults c.args.files.now; out = g.O.Sink.faults c.args.out.now } in
    let later : Moment = record { outside = record { taken = g.O.Sink.taken c.at_table.new.out; told = g.S.Store.told c.at_table.new.files }; files = g.S.Store.faults c.at_table.new.files; out = g.O.Sink.faults c.at_table.new.out } in
    subst (λ r. IfOk c.at_table.result (GoesOn now later r)) (same_run c.args.run (Table c.in-Table.waiting) c.in-Table.is) c.at_table.ensures.run

pub returns-in-Table-clause-unwritten : goal.returns-in-Table-clause-unwritten
returns-in-Table-clause-unwritten g c =
    let now : Moment = record { outside = record { taken = g.O.Sink.taken c.args.out.now; told = g.S.Store.told c.args.files.now }; files = g.S.Store.faults c.args.files.now; out = g.O.Sink.faults c.args.out.now } in
    let later : Moment = record { outside = record { taken = g.O.Sink.taken c.at_table.new.out; told = g.S.Store.told c.at_table.new.files }; files = g.S.Store.faults c.at_table.new.files; out = g.O.Sink.faults c.at_table.new.out } in
    subst (λ r. IfErr c.at_table.result (Stops now later r)) (same_run c.args.run (Table c.in-Table.waiting) c.in-Table.is) c.at_table.ensures.unwritten

pub returns-in-End-clause-run : goal.returns-in-End-clause-run
returns-in-End-clause-run g c =
    let now : Moment = record { outside = record { taken = g.O.Sink.taken c.args.out.now; told = g.S.Store.told c.args.files.now }; files = g.S.Store.faults c.args.files.now; out = g.O.Sink.faults c.args.out.now } in
    goes_on_same now c.args.run c.run_at.result (End c.in-End.end) c.in-End.is c.run_at.ensures

pub returns-in-Unread-clause-run : goal.returns-in-Unread-clause-run
returns-in-Unread-clause-run g c =
    let now : Moment = record { outside = record { taken = g.O.Sink.taken c.args.out.now; told = g.S.Store.told c.args.files.now }; files = g.S.Store.faults c.args.files.now; out = g.O.Sink.faults c.args.out.now } in
    goes_on_same now c.args.run c.run_at-in-Unread.result (Unread c.in-Unread.unread) c.in-Unread.is c.run_at-in-Unread.ensures

pub at_table-requires : goal.at_table-requires
at_table-requires g c = subst (IsSomeHalt c.args.run.inputs.settings) c.in-Table.is c.requires

pub returns-in-Table-clause-next : goal.returns-in-Table-clause-next
returns-in-Table-clause-next g c = subst (λ halt. IfOk c.at_table.result (IsNextOf halt)) (sym c.in-Table.is) c.at_table.ensures.next

pub returns-in-End-clause-next : goal.returns-in-End-clause-next
returns-in-End-clause-next g c = subst (λ halt. IsNextOf halt c.run_at.result) (sym c.in-End.is) tt

pub returns-in-Unread-clause-next : goal.returns-in-Unread-clause-next
returns-in-Unread-clause-next g c = subst (λ halt. IsNextOf halt c.run_at-in-Unread.result) (sym c.in-Unread.is) tt
