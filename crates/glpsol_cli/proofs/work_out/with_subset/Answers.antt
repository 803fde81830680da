use Rattle.std.proofs.Common.{◌∙◌, ap, sym}
use Rattle.verdicts.specs.Certificate.{Certificate}
use Rattle.certificate.specs.Values.{verdict_of}
use Rattle.glpsol_cli.specs.Asked.{wants_subset}
use Rattle.glpsol_cli.specs.Meaning.{lacks_subset}
use Rattle.glpsol_cli.proofs.Works.{rangeable}
use Rattle.glpsol_cli.proofs.work_out.with_subset.Goals as goal

pub returns-in-Optimal-clause-finding : goal.returns-in-Optimal-clause-finding
returns-in-Optimal-clause-finding c = (
  c.requires.proves,
  c.requires.accepted,
  ap (lacks_subset (wants_subset c.args.settings.now.task)) (ap (λ (d : Certificate). d.verdict) (sym c.get.ensures) ∙ sym c.verdict.ensures ∙ ap verdict_of c.in-Optimal.is),
  rangeable c.args.problem.now c.args.settings.now.task c.args.certificate c.requires.continuous c.requires.plain,
)

pub returns-in-Unbounded-clause-finding : goal.returns-in-Unbounded-clause-finding
returns-in-Unbounded-clause-finding c = (
  c.requires.proves,
  c.requires.accepted,
  ap (lacks_subset (wants_subset c.args.settings.now.task)) (ap (λ (d : Certificate). d.verdict) (sym c.get.ensures) ∙ sym c.verdict.ensures ∙ ap verdict_of c.in-Unbounded.is),
  rangeable c.args.problem.now c.args.settings.now.task c.args.certificate c.requires.continuous c.requires.plain,
)
