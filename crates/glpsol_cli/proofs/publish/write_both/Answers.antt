use Rattle.glpsol_cli.specs.Pieces.{Outside}
use Rattle.glpsol_cli.specs.Stages.{pieces_of}
use Rattle.glpsol_cli.proofs.Writing.{both_end, ends_of_more}
use Rattle.glpsol_cli.proofs.publish.write_both.Goals as goal

pub returns-in-Ok-clause-ends : goal.returns-in-Ok-clause-ends
returns-in-Ok-clause-ends g c =
    let old : Outside = record { taken = g.O.Sink.taken c.args.out.now; told = g.S.Store.told c.args.files.now } in
    let middle : Outside = record { taken = g.O.Sink.taken c.write_pieces.new.out; told = g.S.Store.told c.write_pieces.new.files } in
    let new : Outside = record { taken = g.O.Sink.taken c.write_pieces-in-Ok.new.out; told = g.S.Store.told c.write_pieces-in-Ok.new.files } in
    both_end c.write_pieces-in-Ok.result (pieces_of c.args.first.items) (pieces_of c.args.others.items) old middle new c.in-Ok.ensures.ends c.write_pieces-in-Ok.ensures.ends

pub returns-in-Err-clause-ends : goal.returns-in-Err-clause-ends
returns-in-Err-clause-ends g c =
    let old : Outside = record { taken = g.O.Sink.taken c.args.out.now; told = g.S.Store.told c.args.files.now } in
    let middle : Outside = record { taken = g.O.Sink.taken c.write_pieces.new.out; told = g.S.Store.told c.write_pieces.new.files } in
    ends_of_more c.in-Err.fault (pieces_of c.args.first.items) (pieces_of c.args.others.items) old middle c.in-Err.ensures.ends
