use Rattle.row_columns.proofs.ExtendedPoints.{feasible_behind, feasible_before}
use Rattle.row_columns.proofs.RestoredPoints.{objective_dropped}
use Rattle.row_columns.proofs.laws.points_extend.Goals as goal

pub returns-clause-behind : goal.returns-clause-behind
returns-clause-behind c = feasible_behind

pub returns-clause-before : goal.returns-clause-before
returns-clause-before c = feasible_before

pub returns-clause-value : goal.returns-clause-value
returns-clause-value c = λ p q forms x h. objective_dropped p q forms h x
