use Rattle.std.proofs.Common.{◌≡◌, ◌++◌, take, map}
use Rattle.verdicts.specs.Certificate.{Derived}
use Rattle.simplex.proofs.relaxation.add_forms.Given as goal

abbrev pub invariant-loop-row : goal.invariant-loop-row
invariant-loop-row l = l.forms.items ≡ l.initial.forms.items ++ map (λ (d : Derived). d.form) (take l.row-index l.derived)
