use Rattle.std.proofs.Common.{◌∙◌, [], ap, refl, sym}
use Rattle.std.specs.Option.{option_map}
use Rattle.glpsol_cli.specs.Pieces.{Outside}
use Rattle.glpsol_cli.specs.Stages.{without_ranges}
use Rattle.glpsol_cli.proofs.RangedEnds.{no_ranges_wanted}
use Rattle.glpsol_cli.proofs.Writing.{no_line, nothing}
use Rattle.glpsol_cli.proofs.ranged.end_at_best.Goals as goal

pub returns-in-None-clause-cause : goal.returns-in-None-clause-cause
returns-in-None-clause-cause g c = without_ranges (no_ranges_wanted c.args.settings.now.task (sym c.ranges_file.ensures ∙ ap (option_map (λ name. name.now)) c.in-None.is)) refl

pub returns-in-None-clause-written : goal.returns-in-None-clause-written
returns-in-None-clause-written g c =
    let now : Outside = record { taken = g.O.Sink.taken c.args.out.now; told = g.S.Store.told c.args.files.now } in
    no_line [] [] now now (nothing now)

pub end_with_ranges-requires-clause-wanted : goal.end_with_ranges-requires-clause-wanted
end_with_ranges-requires-clause-wanted g c = sym c.ranges_file.ensures ∙ ap (option_map (λ name. name.now)) c.in-Some.is
