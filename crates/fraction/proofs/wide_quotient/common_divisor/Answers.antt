use Rattle.fraction.proofs.WideLemmas.{divisor_of_rest}
use Rattle.fraction.proofs.wide_quotient.common_divisor.Goals as goal

pub returns-clause-value : goal.returns-clause-value
returns-clause-value c = divisor_of_rest _ _ _ _ c.divided_by-rest.ensures.rest c.gcd.ensures
