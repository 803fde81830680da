use Rattle.cut_rows.proofs.CutPoints.{feasible_without, same_value}
use Rattle.cut_rows.proofs.ShownCuts.{feasible_with}
use Rattle.cut_rows.proofs.laws.cuts_keep_points.Goals as goal

pub returns-clause-without : goal.returns-clause-without
returns-clause-without c = feasible_without

pub returns-clause-with : goal.returns-clause-with
returns-clause-with c = feasible_with

pub returns-clause-value : goal.returns-clause-value
returns-clause-value c = λ p q cuts x h. same_value p q cuts x h
