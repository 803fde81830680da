use Rattle.std.proofs.Common.{◌∙◌, ◌<◌, arith}
use Rattle.fraction.proofs.BinaryLemmas.{zero_gcd, both_even, half_fits, gcd-swap}
use Rattle.fraction.proofs.euclid.+gcd_long.Goals as goal

pub overflow_mul-result : goal.overflow_mul-result
overflow_mul-result t c =
    let some : 0 < c.args.a = omega arith in
    let less = half_fits c.args.a c.args.b c.gcd_long.result some c.if-a-ne0.false c.gcd_long.ensures in
    omega arith

pub returns-then-a-eq0 : goal.returns-then-a-eq0
returns-then-a-eq0 t c = zero_gcd _ _ c.if-a-eq0.true

pub returns-then-b-ne0 : goal.returns-then-b-ne0
returns-then-b-ne0 t c = c.gcd_odd_long-then-b-ne0.ensures ∙ gcd-swap _ _

pub returns-else-b-ne0 : goal.returns-else-b-ne0
returns-else-b-ne0 t c = both_even c.args.a c.args.b c.gcd_long.result c.if-a-ne0.false c.if-b-ne0.false c.gcd_long.ensures
