use Rattle.glpsol_cli.specs.Pieces.{Outside}
use Rattle.glpsol_cli.proofs.Writing.{none_written}
use Rattle.glpsol_cli.proofs.Reports.{shown_pieces}
use Rattle.glpsol_cli.proofs.publish.publish.Goals as goal

pub returns-in-Err-clause-published : goal.returns-in-Err-clause-published
returns-in-Err-clause-published g c =
    let now : Outside = record { taken = g.O.Sink.taken c.args.out.now; told = g.S.Store.told c.args.files.now } in
    let made = shown_pieces c.args.task.now c.args.problem.now c.args.finding.now c.requires in
    record { pieces = made.0; are = made.1; ends = none_written made.0 now }
