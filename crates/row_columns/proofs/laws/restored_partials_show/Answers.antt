use Rattle.row_columns.specs.Partials.{restored_partial}
use Rattle.row_columns.proofs.RestoredPartials.{partial_restored}
use Rattle.row_columns.proofs.laws.restored_partials_show.Goals as goal

pub returns-clause-passes : goal.returns-clause-passes
returns-clause-passes c = partial_restored

pub returns-clause-shows : goal.returns-clause-shows
returns-clause-shows c = λ p q forms k h all s t. c.accepted_partials_show.ensures.shows p (restored_partial p forms k) (partial_restored p q forms k h all s t)
