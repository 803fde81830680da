use Rattle.std.proofs.Common.{◌≡◌, ◌∙◌, ap, arith, to_z, of_z}
use Rattle.std.specs.Int.{w128}
use Rattle.std.proofs.lemmas.Int.{ints}
use Rattle.rational.specs.Rational.{Rational}
use Rattle.row_columns.proofs.ScalingLemmas.{abs_numerator}
use Rattle.row_columns.proofs.scaling.size.Goals as goal

pub returns : goal.returns
returns c =
    let same : to_z w128 (of_z w128 c.parts.result.0) ≡ c.parts.result.0 = omega (arith, ints) in
    same ∙ c.parts.ensures.numerator ∙ ap (λ (q : Rational). q.numerator) c.abs.ensures ∙ abs_numerator c.args.number
