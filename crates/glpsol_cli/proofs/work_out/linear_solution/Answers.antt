use Rattle.std.proofs.Common.{◌∙◌}
use Rattle.glpsol_cli.proofs.Works.{no_subset, rangeable}
use Rattle.glpsol_cli.proofs.work_out.linear_solution.Goals as goal

pub with_subset-requires-clause-plain : goal.with_subset-requires-clause-plain
with_subset-requires-clause-plain g c = c.in-Ok.ensures.plain c.requires.continuous

pub returns-else-is_subset_wanted-clause-finding : goal.returns-else-is_subset_wanted-clause-finding
returns-else-is_subset_wanted-clause-finding g c = (
  c.in-Ok.ensures.proves.0,
  c.in-Ok.ensures.proves.1,
  no_subset c.args.settings.now.task c.in-Ok.certificate (c.requires.wanted ∙ c.if-is_subset_wanted.false),
  rangeable c.args.problem.now c.args.settings.now.task c.in-Ok.certificate c.requires.continuous (c.in-Ok.ensures.plain c.requires.continuous),
)
