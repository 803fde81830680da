use Rattle.std.proofs.Common.{Some, subst}
use Rattle.partial_certificate.specs.Text.{partial_text}
use Rattle.glpsol_cli.specs.Meaning.{saved_in}
use Rattle.glpsol_cli.specs.Pieces.{Outside}
use Rattle.glpsol_cli.specs.Stages.{EndsWriting}
use Rattle.glpsol_cli.proofs.Writing.{none_written}
use Rattle.glpsol_cli.proofs.unsolved.save.Goals as goal

pub returns-in-Ok : goal.returns-in-Ok
returns-in-Ok g c =
    let old : Outside = record { taken = g.O.Sink.taken c.args.out.now; told = g.S.Store.told c.args.files.now } in
    let new : Outside = record { taken = g.O.Sink.taken c.write_pieces.new.out; told = g.S.Store.told c.write_pieces.new.files } in
    subst (λ ps. EndsWriting ps old new c.write_pieces.result) c.in-Ok.ensures c.write_pieces.ensures.ends

pub returns-in-Err : goal.returns-in-Err
returns-in-Err g c =
    let now : Outside = record { taken = g.O.Sink.taken c.args.out.now; told = g.S.Store.told c.args.files.now } in
    none_written (saved_in (Some c.args.name.now) (partial_text c.args.shown.now)) now
