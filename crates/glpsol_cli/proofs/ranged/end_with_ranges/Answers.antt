use Rattle.std.proofs.Common.{◌≡◌, refl, sym, subst}
use Rattle.outside.specs.Causes.{Rose}
use Rattle.verdicts.specs.Certificate.{Certificate, Optimal}
use Rattle.branch_search.specs.Plain.{IsPlainCertificate}
use Rattle.cert_check.specs.Outcome.{Acceptance, outcome, trials}
use Rattle.exact_ranges.specs.Faults.{IsFault}
use Rattle.exact_ranges.specs.ShownBest.{best_point, best_weights}
use Rattle.glpsol_cli.specs.Cause.{AreRanges}
use Rattle.glpsol_cli.specs.Pieces.{Outside}
use Rattle.glpsol_cli.specs.Stages.{unranged}
use Rattle.glpsol_cli.specs.declared.answer.Answer.TheVariants.{Unranged}
use Rattle.glpsol_cli.proofs.RangedEnds.{at_best_saving, ranges_wanted, saving_written, told_alone}
use Rattle.glpsol_cli.proofs.ranged.end_with_ranges.Goals as goal

pub kept_ranges-requires-clause-continuous : goal.kept_ranges-requires-clause-continuous
kept_ranges-requires-clause-continuous g c = (c.requires.rangeable (ranges_wanted c.args.settings.now.task c.args.file.now c.requires.wanted)).0

pub kept_ranges-requires-clause-plain : goal.kept_ranges-requires-clause-plain
kept_ranges-requires-clause-plain g c =
    subst (IsPlainCertificate c.args.problem.now) (sym c.get.ensures) (c.requires.rangeable (ranges_wanted c.args.settings.now.task c.args.file.now c.requires.wanted)).1

pub kept_ranges-requires-clause-optimal : goal.kept_ranges-requires-clause-optimal
kept_ranges-requires-clause-optimal g c = subst (λ (d : Certificate). d.verdict ≡ Optimal) (sym c.get.ensures) c.requires.best

pub kept_ranges-requires-clause-accepted : goal.kept_ranges-requires-clause-accepted
kept_ranges-requires-clause-accepted g c = subst (λ (d : Certificate). outcome (trials c.args.problem.now d) ≡ Acceptance) (sym c.get.ensures) c.requires.accepted

pub returns-in-Ok-clause-cause : goal.returns-in-Ok-clause-cause
returns-in-Ok-clause-cause g c =
    at_best_saving c.args.problem.now c.args.settings.now c.args.certificate c.in-Ok.ranges (Rose (g.S.Store.faults c.args.files.now) (g.S.Store.faults c.end_saving.new.files)) (Rose (g.O.Sink.faults c.args.out.now) (g.O.Sink.faults c.end_saving.new.out)) c.end_saving.result
    (ranges_wanted c.args.settings.now.task c.args.file.now c.requires.wanted)
    (subst (λ (d : Certificate). AreRanges c.args.problem.now d c.in-Ok.ranges) c.get.ensures c.in-Ok.ensures.ranges) c.end_saving.ensures.cause

pub returns-in-Ok-clause-written : goal.returns-in-Ok-clause-written
returns-in-Ok-clause-written g c =
    let old : Outside = record { taken = g.O.Sink.taken c.args.out.now; told = g.S.Store.told c.args.files.now } in
    let new : Outside = record { taken = g.O.Sink.taken c.end_saving.new.out; told = g.S.Store.told c.end_saving.new.files } in
    saving_written c.args.problem.now c.args.settings.now c.args.certificate c.in-Ok.ranges (Rose (g.S.Store.faults c.args.files.now) (g.S.Store.faults c.end_saving.new.files)) (Rose (g.O.Sink.faults c.args.out.now) (g.O.Sink.faults c.end_saving.new.out)) c.end_saving.result
    c.args.file.now c.requires.wanted c.end_saving.ensures.cause old new c.end_saving.ensures.written

pub returns-in-Err-clause-cause : goal.returns-in-Err-clause-cause
returns-in-Err-clause-cause g c =
    unranged c.in-Err.fault (ranges_wanted c.args.settings.now.task c.args.file.now c.requires.wanted)
    (subst (λ (d : Certificate). IsFault c.args.problem.now (best_point d) (best_weights d) c.args.settings.now.pivot_limit c.in-Err.fault) c.get.ensures c.in-Err.ensures.fault) c.in-Err.ensures.unlimited c.tell.ensures.same

pub returns-in-Err-clause-written : goal.returns-in-Err-clause-written
returns-in-Err-clause-written g c =
    told_alone c.args.settings.now.task (Unranged c.in-Err.fault c.args.certificate) c.tell.result c.tell.ensures.same refl refl (g.O.Sink.taken c.args.out.now) (g.O.Sink.taken c.tell.new.out) (g.S.Store.told c.args.files.now) c.tell.ensures.prefix
