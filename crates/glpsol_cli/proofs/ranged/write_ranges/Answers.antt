use Rattle.std.proofs.Common.{Some, subst}
use Rattle.exact_ranges.specs.Text.{ranges_text}
use Rattle.glpsol_cli.specs.Meaning.{saved_in}
use Rattle.glpsol_cli.specs.Pieces.{Outside}
use Rattle.glpsol_cli.specs.Stages.{EndsWriting}
use Rattle.glpsol_cli.proofs.Writing.{none_written}
use Rattle.glpsol_cli.proofs.ranged.write_ranges.Goals as goal

pub returns-in-Ok-clause-ends : goal.returns-in-Ok-clause-ends
returns-in-Ok-clause-ends g c =
    let old : Outside = record { taken = g.O.Sink.taken c.args.out.now; told = g.S.Store.told c.args.files.now } in
    let new : Outside = record { taken = g.O.Sink.taken c.write_pieces.new.out; told = g.S.Store.told c.write_pieces.new.files } in
    subst (λ ps. EndsWriting ps old new c.write_pieces.result) c.in-Ok.ensures c.write_pieces.ensures.ends

pub returns-in-Err-clause-ends : goal.returns-in-Err-clause-ends
returns-in-Err-clause-ends g c =
    let now : Outside = record { taken = g.O.Sink.taken c.args.out.now; told = g.S.Store.told c.args.files.now } in
    none_written (saved_in (Some c.args.file.now) (ranges_text c.args.ranges.now)) now
