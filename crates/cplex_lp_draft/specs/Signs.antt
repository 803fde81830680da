-- Signs, which the definitions of all sections use.
use Rattle.rational.specs.Rational.{Rational, neg_ℚ}
use Rattle.cplex_lp_draft.specs.declared.expecting.Sign.{Sign}
use Rattle.cplex_lp_draft.specs.declared.expecting.Sign.TheVariants as sign

-- of several, each minus turns the sign

abbrev pub after_plus : Sign → Sign
after_plus sign.Unsigned = sign.Plus
after_plus sign.Plus = sign.Plus
after_plus sign.Minus = sign.Minus

abbrev pub after_minus : Sign → Sign
after_minus sign.Unsigned = sign.Minus
after_minus sign.Plus = sign.Minus
after_minus sign.Minus = sign.Plus

abbrev pub signed : Sign → Rational → Rational
signed sign.Unsigned v = v
signed sign.Plus v = v
signed sign.Minus v = neg_ℚ v
