use Rattle.std.proofs.Common.{[], Some, arith, refl, subst}
use Rattle.std.specs.Prelude.{Err}
use Rattle.exact_ranges.specs.Ranges.{AllRanges}
use Rattle.exact_ranges.specs.Text.{ranges_text}
use Rattle.glpsol_cli.specs.Meaning.{saved_in}
use Rattle.glpsol_cli.specs.Pieces.{Outside}
use Rattle.glpsol_cli.specs.Stages.{EndsWriting, saved, unsaved}
use Rattle.glpsol_cli.specs.declared.answer.Reached.TheVariants.{Ranges}
use Rattle.glpsol_cli.proofs.Carried.{unended_line}
use Rattle.glpsol_cli.proofs.Writing.{failed_within, no_line}
use Rattle.glpsol_cli.proofs.ranged.end_saving.Goals as goal

pub returns-in-Ok-clause-cause : goal.returns-in-Ok-clause-cause
returns-in-Ok-clause-cause g c = saved refl

pub returns-in-Ok-clause-written : goal.returns-in-Ok-clause-written
returns-in-Ok-clause-written g c =
    let old : Outside = record { taken = g.O.Sink.taken c.args.out.now; told = g.S.Store.told c.args.files.now } in
    let new : Outside = record { taken = g.O.Sink.taken c.write_ranges.new.out; told = g.S.Store.told c.write_ranges.new.files } in
    no_line [] (saved_in (Some c.args.file.now) (ranges_text c.args.ranges)) old new (rw c.get.ensures at c.in-Ok.ensures.ends)

pub returns-in-Err-clause-cause : goal.returns-in-Err-clause-cause
returns-in-Err-clause-cause g c =
    unsaved c.in-Err.fault
    (failed_within (g.S.Store.faults c.args.files.now) (g.S.Store.faults c.args.files.now) (g.S.Store.faults c.write_ranges.new.files) (g.S.Store.faults c.write_ranges.new.files) (omega arith) (omega arith)
    (g.O.Sink.faults c.args.out.now) (g.O.Sink.faults c.args.out.now) (g.O.Sink.faults c.write_ranges.new.out) (g.O.Sink.faults c.tell_unwritten.new.out) (omega arith) c.tell_unwritten.ensures.later c.in-Err.fault c.in-Err.ensures.failed)
    c.tell_unwritten.ensures.answer

pub returns-in-Err-clause-written : goal.returns-in-Err-clause-written
returns-in-Err-clause-written g c =
    let old : Outside = record { taken = g.O.Sink.taken c.args.out.now; told = g.S.Store.told c.args.files.now } in
    let middle : Outside = record { taken = g.O.Sink.taken c.write_ranges.new.out; told = g.S.Store.told c.write_ranges.new.files } in
    unended_line (Ranges c.args.certificate c.args.ranges) c.in-Err.fault (saved_in (Some c.args.file.now) (ranges_text c.args.ranges)) old middle (g.O.Sink.taken c.tell_unwritten.new.out) c.tell_unwritten.result c.tell_unwritten.result c.tell_unwritten.ensures.answer refl (subst (λ (r : AllRanges). EndsWriting {T = Unit {0}} (saved_in (Some c.args.file.now) (ranges_text r)) old middle (Err c.in-Err.fault)) c.get.ensures c.in-Err.ensures.ends) c.tell_unwritten.ensures.line
