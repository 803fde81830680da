use Rattle.std.proofs.lemmas.List.{get_or_default}
use Rattle.gmpl_formats.proofs.Steps.{print_fails, handed_on}
use Rattle.gmpl_formats.proofs.printing.print_pieces.Goals as goal

pub returns-in_err-print_piece : goal.returns-in_err-print_piece
returns-in_err-print_piece c =
    handed_on c.from_residual.result c.in_err-print_piece.field-0.0 _ _ c.from_residual.ensures.1
    (print_fails _ c.args.pieces.now c.loop-piece.piece-index _ _ c.in_err-print_piece.field-0.0 _ c.loop-piece-test.true (get_or_default c.args.pieces.now c.loop-piece.piece-index _ _ c.loop-piece-test.true) c.loop-piece.invariant c.in_err-print_piece.ensures)
