use Rattle.cut_rows.specs.Partials.{restored_partial}
use Rattle.cut_rows.proofs.RestoredPartials.{partial_restored}
use Rattle.cut_rows.proofs.laws.restored_partials_show.Goals as goal

pub returns-clause-passes : goal.returns-clause-passes
returns-clause-passes c = partial_restored

pub returns-clause-shows : goal.returns-clause-shows
returns-clause-shows c = λ p q cuts k h shown none t. c.accepted_partials_show.ensures.shows p (restored_partial p cuts k) (partial_restored p q cuts k h shown none t)
