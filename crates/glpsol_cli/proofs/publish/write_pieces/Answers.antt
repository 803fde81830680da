use Rattle.std.proofs.Common.{subst, sym}
use Rattle.std.specs.Prelude.{Ok}
use Rattle.glpsol_cli.specs.Pieces.{Outside, AllWritten}
use Rattle.glpsol_cli.specs.Stages.{pieces_of}
use Rattle.glpsol_cli.proofs.Follow.{none_left}
use Rattle.glpsol_cli.proofs.Writing.{nothing}
use Rattle.glpsol_cli.proofs.publish.write_pieces.Goals as goal

pub returns-clause-ends : goal.returns-clause-ends
returns-clause-ends g c =
    let now : Outside = record { taken = g.O.Sink.taken c.loop-piece.out; told = g.S.Store.told c.loop-piece.files } in
    let none = none_left c.loop-piece.piece-iterator c.next.new.self c.next.result c.in-None.is c.next.ensures.steps c.loop-piece.invariant.left in
    c.loop-piece.invariant.ends now (Ok tt) (subst (λ ps. AllWritten (pieces_of ps) now now) (sym none) (nothing now))
