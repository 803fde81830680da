-- Lists of steps of Bland's rule, from any basis on.
use Rattle.std.specs.Prelude.{List, [], ◌∷◌}
use Rattle.basis.specs.System.{System}
use Rattle.basis.specs.Bland.{BlandStep}
use Rattle.basis.specs.declared.Place.{Place}

-- a list of steps of Bland's rule that is now at the basis b, after the bases `before`, the latest of them first
abbrev pub AreSteps : System → List Place → List (List Place) → Type 0
AreSteps s b [] = Unit {0}
AreSteps s b (c ∷ before) = BlandStep s c b × AreSteps s c before
