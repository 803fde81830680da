use Rattle.std.proofs.Common.{◌≡◌, drop}
use Rattle.std.specs.Prelude.{string_bytes}
use Rattle.gmpl_formats.specs.Printing.{printed_onto}
use Rattle.gmpl_formats.proofs.printing.print_pieces.Given as goal

abbrev pub invariant-loop-piece : goal.invariant-loop-piece
invariant-loop-piece l = printed_onto (string_bytes l.text) (drop l.piece-index l.pieces) l.rest ≡ printed_onto (string_bytes l.initial.text) l.pieces l.initial.rest
