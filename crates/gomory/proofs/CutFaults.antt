-- The operations of a cut that do not fit.
use Rattle.std.proofs.Common.{◌≡◌, ◌∙◌, ℕ, ◌<◌, List, length, sym, ap, Result, Err}
use Rattle.rational.specs.Rational.{Rational}
use Rattle.milp.specs.Form.{number_at}
use Rattle.milp.specs.Problem.{Problem}
use Rattle.fraction.specs.declared.frac.NoFit.{NoFit}
use Rattle.basis.specs.declared.Place.{Place}
use Rattle.gomory.specs.Cuts.{fractional_part}
use Rattle.gomory.specs.Numbers.{scale_at, variable_at, number_at_variable, number_of}
use Rattle.gomory.specs.Faults.{number_answer, IsCutFault}
use Rattle.gomory.specs.declared.scale.Scale.{Scale}
use Rattle.gomory.specs.declared.numbers.RowVariable.{RowVariable}
use Rattle.gomory.specs.declared.numbers.Role.{Role}

pub number_fault : (p : Problem) (b : List Place) (rates x : List Rational) (r : ℕ) (s : Scale) (at : RowVariable) (role : Role) (v : ℕ) (answer : Result Rational NoFit) (o : NoFit) → v < length b
    → s ≡ scale_at (fractional_part (number_at x r)) → at ≡ variable_at p b (number_at rates) (number_at x) v → answer ≡ number_answer s r v at role → answer ≡ Err o → IsCutFault p b rates x r o
number_fault p b rates x r s at role v answer o known es ea e is =
    IsCutFault.of_number role v known (ap (λ s. number_answer s r v (variable_at p b (number_at rates) (number_at x) v) role) (sym es) ∙ ap (λ at. number_answer s r v at role) (sym ea) ∙ sym e ∙ is)

pub number_is : (p : Problem) (b : List Place) (rates x : List Rational) (r : ℕ) (s : Scale) (at : RowVariable) (role : Role) (v : ℕ) (n : Rational)
    → s ≡ scale_at (fractional_part (number_at x r)) → at ≡ variable_at p b (number_at rates) (number_at x) v → n ≡ number_at_variable s.part r v at role → n ≡ number_of p b (number_at rates) (number_at x) r role v
number_is p b rates x r s at role v n es ea e = e ∙ ap (λ (s : Scale). number_at_variable s.part r v at role) es ∙ ap (λ at. number_at_variable (fractional_part (number_at x r)) r v at role) ea
