-- Operations that do not fit.
use Rattle.fraction.specs.declared.frac.NoFit.{NoFit}
use Rattle.fraction.specs.Answers.{DoesNotFit}
use Rattle.basis.specs.Numbers.{Numbers, IsSitePair}

-- an operation on a pair of site numbers whose result does not fit
pub record IsSiteFault (ns : Numbers) (e : NoFit) : Type 0 where
  pub numbers : IsSitePair ns e.a e.b
  pub not_fit : DoesNotFit e
