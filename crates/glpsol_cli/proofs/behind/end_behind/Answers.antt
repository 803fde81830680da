use Rattle.std.proofs.Common.{◌∙◌, ap, arith, refl, subst}
use Rattle.glpsol_cli.specs.Cause.{reached_of}
use Rattle.glpsol_cli.specs.Pieces.{Outside}
use Rattle.glpsol_cli.specs.Stages.{pieces_of, range_pieces, unwritten}
use Rattle.glpsol_cli.specs.Written.{ThenLine, extent_of, line_of}
use Rattle.glpsol_cli.specs.declared.answer.Reached.TheVariants.{Verdict}
use Rattle.glpsol_cli.proofs.Carried.{no_ranges, reached_unwritten, unended_line}
use Rattle.glpsol_cli.proofs.RangedEnds.{behind_within}
use Rattle.glpsol_cli.proofs.Writing.{failed_within, line_after}
use Rattle.glpsol_cli.proofs.behind.end_behind.Goals as goal

pub returns-in-Ok-clause-cause : goal.returns-in-Ok-clause-cause
returns-in-Ok-clause-cause g c =
    behind_within (g.S.Store.faults c.args.files.now) (g.S.Store.faults c.write_pieces.new.files) (g.S.Store.faults c.at_end.new.files) (g.S.Store.faults c.at_end.new.files) c.write_pieces.ensures.files_later (omega arith)
    (g.O.Sink.faults c.args.out.now) (g.O.Sink.faults c.write_pieces.new.out) (g.O.Sink.faults c.at_end.new.out) (g.O.Sink.faults c.at_end.new.out) c.write_pieces.ensures.out_later (omega arith)
    c.args.problem.now c.args.settings.now c.args.behind.fault c.args.certificate c.at_end.result c.at_end.ensures.cause

pub returns-in-Ok-clause-written : goal.returns-in-Ok-clause-written
returns-in-Ok-clause-written g c =
    let old : Outside = record { taken = g.O.Sink.taken c.args.out.now; told = g.S.Store.told c.args.files.now } in
    let middle : Outside = record { taken = g.O.Sink.taken c.write_pieces.new.out; told = g.S.Store.told c.write_pieces.new.files } in
    let new : Outside = record { taken = g.O.Sink.taken c.at_end.new.out; told = g.S.Store.told c.at_end.new.files } in
    line_after (extent_of c.at_end.result) (line_of c.at_end.result) (pieces_of c.args.behind.pieces.items) (range_pieces c.args.settings.now.task (reached_of c.at_end.result)) old middle new c.in-Ok.ensures.ends c.at_end.ensures.written

pub returns-in-Err-clause-cause : goal.returns-in-Err-clause-cause
returns-in-Err-clause-cause g c =
    unwritten c.in-Err.fault
    (failed_within (g.S.Store.faults c.args.files.now) (g.S.Store.faults c.args.files.now) (g.S.Store.faults c.write_pieces.new.files) (g.S.Store.faults c.write_pieces.new.files) (omega arith) (omega arith)
    (g.O.Sink.faults c.args.out.now) (g.O.Sink.faults c.args.out.now) (g.O.Sink.faults c.write_pieces.new.out) (g.O.Sink.faults c.tell_unwritten.new.out) (omega arith) c.tell_unwritten.ensures.later c.in-Err.fault c.in-Err.ensures.failed)
    c.tell_unwritten.ensures.answer

pub returns-in-Err-clause-written : goal.returns-in-Err-clause-written
returns-in-Err-clause-written g c =
    let old : Outside = record { taken = g.O.Sink.taken c.args.out.now; told = g.S.Store.told c.args.files.now } in
    let middle : Outside = record { taken = g.O.Sink.taken c.write_pieces.new.out; told = g.S.Store.told c.write_pieces.new.files } in
    let new : Outside = record { taken = g.O.Sink.taken c.tell_unwritten.new.out; told = g.S.Store.told c.write_pieces.new.files } in
    let pieces = pieces_of c.args.behind.pieces.items in
    subst (ThenLine (extent_of c.tell_unwritten.result) (line_of c.tell_unwritten.result) old new)
    (no_ranges c.args.settings.now.task (reached_of c.tell_unwritten.result) c.args.certificate pieces (ap reached_of c.tell_unwritten.ensures.answer ∙ reached_unwritten (Verdict c.args.certificate) c.in-Err.fault))
    (unended_line (Verdict c.args.certificate) c.in-Err.fault pieces old middle (g.O.Sink.taken c.tell_unwritten.new.out) c.tell_unwritten.result c.tell_unwritten.result c.tell_unwritten.ensures.answer refl c.in-Err.ensures.ends c.tell_unwritten.ensures.line)
