use Rattle.std.proofs.Common.{◌≡◌, ◌≤◌, length}
use Rattle.std.specs.Prelude.{Result}
use Rattle.std.specs.Vec.Iter.{into_iter_items, into_iter_len}
use Rattle.glpsol_cli.specs.Pieces.{Outside}
use Rattle.glpsol_cli.specs.Stages.{pieces_of, EndsWriting}
use Rattle.glpsol_cli.specs.declared.publish.PublishFault.{PublishFault}
use Rattle.glpsol_cli.proofs.publish.write_pieces.Given as goal

-- what is written from here on, of the pieces that are left, ends the writing of all
abbrev pub invariant-loop-piece : goal.invariant-loop-piece
invariant-loop-piece g l = record {
  ends : (new : Outside) (r : Result (Unit {0}) PublishFault) → EndsWriting (pieces_of (into_iter_items l.piece-iterator)) (record { taken = g.O.Sink.taken l.out; told = g.S.Store.told l.files }) new r → EndsWriting (pieces_of l.fn.pieces.items) (record { taken = g.O.Sink.taken l.initial.out; told = g.S.Store.told l.initial.files }) new r;
  files_later : g.S.Store.faults l.initial.files ≤ g.S.Store.faults l.files;
  out_later : g.O.Sink.faults l.initial.out ≤ g.O.Sink.faults l.out;
  left : into_iter_len l.piece-iterator ≡ length (into_iter_items l.piece-iterator);
}
