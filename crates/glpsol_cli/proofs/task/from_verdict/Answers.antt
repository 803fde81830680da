use Rattle.std.proofs.Common.{◌∙◌, sym, ap}
use Rattle.outside.specs.Causes.{Rose}
use Rattle.verdicts.specs.Certificate.{Certificate}
use Rattle.glpsol_cli.specs.Pieces.{Outside}
use Rattle.glpsol_cli.specs.Stages.{texts_in}
use Rattle.certificate.specs.Values.{verdict_of}
use Rattle.glpsol_cli.proofs.Carried.{infeasible_cause, infeasible_written, unbounded_cause, unbounded_written}
use Rattle.glpsol_cli.proofs.task.from_verdict.Goals as goal

pub returns-in-Infeasible-clause-cause : goal.returns-in-Infeasible-clause-cause
returns-in-Infeasible-clause-cause g c =
    infeasible_cause c.args.inputs.now.settings (texts_in c.args.inputs.now) c.args.problem.now c.args.later c.requires.subject c.args.certificate c.requires.found (Rose (g.S.Store.faults c.args.files.now) (g.S.Store.faults c.args.files.now)) (Rose (g.O.Sink.faults c.args.out.now) (g.O.Sink.faults c.args.out.now)) (ap (λ (d : Certificate). d.verdict) (sym c.get.ensures) ∙ sym c.verdict.ensures ∙ ap verdict_of c.in-Infeasible.is)

pub returns-in-Infeasible-clause-written : goal.returns-in-Infeasible-clause-written
returns-in-Infeasible-clause-written g c =
    let now : Outside = record { taken = g.O.Sink.taken c.args.out.now; told = g.S.Store.told c.args.files.now } in
    infeasible_written c.args.inputs.now.settings (texts_in c.args.inputs.now) c.args.problem.now c.args.later c.requires.subject c.args.certificate c.requires.found now (ap (λ (d : Certificate). d.verdict) (sym c.get.ensures) ∙ sym c.verdict.ensures ∙ ap verdict_of c.in-Infeasible.is)

pub returns-in-Unbounded-clause-cause : goal.returns-in-Unbounded-clause-cause
returns-in-Unbounded-clause-cause g c =
    unbounded_cause c.args.inputs.now.settings (texts_in c.args.inputs.now) c.args.problem.now c.args.later c.requires.subject c.args.certificate c.requires.found (Rose (g.S.Store.faults c.args.files.now) (g.S.Store.faults c.args.files.now)) (Rose (g.O.Sink.faults c.args.out.now) (g.O.Sink.faults c.args.out.now)) (ap (λ (d : Certificate). d.verdict) (sym c.get.ensures) ∙ sym c.verdict.ensures ∙ ap verdict_of c.in-Unbounded.is)

pub returns-in-Unbounded-clause-written : goal.returns-in-Unbounded-clause-written
returns-in-Unbounded-clause-written g c =
    let now : Outside = record { taken = g.O.Sink.taken c.args.out.now; told = g.S.Store.told c.args.files.now } in
    unbounded_written c.args.inputs.now.settings (texts_in c.args.inputs.now) c.args.problem.now c.args.later c.requires.subject c.args.certificate c.requires.found now (ap (λ (d : Certificate). d.verdict) (sym c.get.ensures) ∙ sym c.verdict.ensures ∙ ap verdict_of c.in-Unbounded.is)
