use Rattle.std.proofs.Common.{◌≡◌, ◌++◌, drop}
use Rattle.made_problem.specs.Made.{form_from}
use Rattle.made_problem.proofs.problem.form.Given as goal

abbrev pub invariant-loop-coefficient : goal.invariant-loop-coefficient
invariant-loop-coefficient l = record {
  at_place : l.place ≡ l.coefficient-index;
  so_far : form_from 0 l.coefficients ≡ l.entries.items ++ form_from l.place (drop l.coefficient-index l.coefficients);
}
