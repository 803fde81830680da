use Rattle.std.proofs.Common.{ℕ, subst, List}
use Rattle.rational.specs.Rational.{Rational}
use Rattle.milp.specs.Form.{number_at}
use Rattle.basis.specs.Bland.{IsOutside, HasPassed}
use Rattle.simplex.proofs.decision.decide.Goals as goal

pub mend-requires-clause-passed : goal.mend-requires-clause-passed
mend-requires-clause-passed c =
    let P : List Rational → Type 0 = λ ys. HasPassed c.args.system.now (number_at ys) c.in-Some.outside.0 c.in-Some.outside.1 in
    subst P c.deref.ensures.value c.in-Some.ensures.some.1

pub improve-requires-clause-inside : goal.improve-requires-clause-inside
improve-requires-clause-inside c =
    let P : List Rational → Type 0 = λ ys. (v : ℕ) → ¬ (IsOutside c.args.system.now c.args.state.now.dictionary.places (number_at ys) v) in
    subst P c.deref.ensures.value (c.first_outside.ensures.none c.in-None.is)
