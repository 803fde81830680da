-- The text of a rational number.
use Rattle.std.specs.Prelude.{codes, ℕ, List, ◌++◌, cond, ◌==◌}
use Rattle.std.specs.Fmt.{decimal, signed_decimal}
use Rattle.rational.specs.Rational.{Rational}

-- `n`, or `n/d` where d is more than 1
abbrev pub text_of : Rational → List ℕ
text_of q = cond (q.denominator == 1) (signed_decimal q.numerator) (signed_decimal q.numerator ++ (codes "/" ++ decimal q.denominator))
