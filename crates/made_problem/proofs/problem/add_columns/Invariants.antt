use Rattle.std.proofs.Common.{◌≡◌}
use Rattle.made_problem.specs.Made.{made_columns}
use Rattle.made_problem.proofs.problem.add_columns.Given as goal

abbrev pub invariant-loop-place : goal.invariant-loop-place
invariant-loop-place l = l.builder ≡ record l.initial.builder { columns = made_columns l.place }
