use Rattle.verdicts.proofs.DerivedRows.{derived_sound}
use Rattle.verdicts.proofs.Nodes.{leaf_bound, leaf_empty}
use Rattle.verdicts.proofs.Bounded.{leaf_no_ray}
use Rattle.verdicts.proofs.tests_show.Goals as goal

pub returns : goal.returns
returns c = record { derived = λ p before d x t f k. derived_sound p before x d f k t; empty = leaf_empty; bound = leaf_bound; no_ray = leaf_no_ray }
