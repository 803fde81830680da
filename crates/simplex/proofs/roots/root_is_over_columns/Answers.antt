use Rattle.simplex.proofs.OverColumns.{over_columns}
use Rattle.simplex.proofs.roots.root_is_over_columns.Goals as goal

pub returns : goal.returns
returns c = over_columns c.args.instance.now c.keeps_its_limits.ensures.well_formed
