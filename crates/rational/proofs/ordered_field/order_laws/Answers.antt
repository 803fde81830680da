use Rattle.rational.proofs.Field.{le_antisymm}
use Rattle.rational.proofs.ordered_field.order_laws.Goals as goal

pub returns-clause-both_ways : goal.returns-clause-both_ways
returns-clause-both_ways c = le_antisymm
