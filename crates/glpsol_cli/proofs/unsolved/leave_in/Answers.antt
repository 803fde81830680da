use Rattle.glpsol_cli.specs.Pieces.{Outside}
use Rattle.glpsol_cli.proofs.Leaving.{saved_written, unsaved_written}
use Rattle.glpsol_cli.proofs.unsolved.leave_in.Goals as goal
use Rattle.glpsol_cli.proofs.unsolved.leave_in.Goals.{in-Ok, in-Err}

pub returns-after-save-clause-written : goal.returns-after-save-clause-written
returns-after-save-clause-written g c =
    let old : Outside = record { taken = g.O.Sink.taken c.args.out.now; told = g.S.Store.told c.args.files.now } in
    let new : Outside = record { taken = g.O.Sink.taken c.save.new.out; told = g.S.Store.told c.save.new.files } in
    let ends = rw c.get.ensures at c.save.ensures in
    elim c.match-save.branch [
      | in-Ok w ↦ saved_written c.args.file.now c.in-Some.name c.in-Some-shown.shown c.save.result c.match-save.result old new c.in-Some.is ends _ w.in-Ok.is w.result-is
      | in-Err w ↦ unsaved_written c.args.file.now c.in-Some.name c.in-Some-shown.shown c.save.result c.match-save.result old new c.in-Some.is ends _ w.in-Err.is w.result-is
    ]
