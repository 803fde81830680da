use Rattle.verdicts.proofs.Migration.{migration_proves}
use Rattle.verdicts.proofs.migrations_prove.Goals as goal

pub returns : goal.returns
returns c = migration_proves
