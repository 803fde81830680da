use Rattle.std.proofs.Common.{◌≡◌, ◌∙◌, ◌⊎◌, ◌%◌, arith, mod-lt}
use Rattle.fraction.proofs.CmpLemmas.{by_quotients, by_rests, by_zero, loop_step}
use Rattle.fraction.proofs.euclid.cmp_wide_quotients.Goals as goal

pub returns-then-left-right : goal.returns-then-left-right
returns-then-left-right c = c.cmp.ensures ∙ by_quotients _ _ _ _ c.loop-left.invariant.first c.loop-left.invariant.second c.if-left-right.true ∙ c.loop-left.invariant.same

pub returns-then-left_rest-eq0 : goal.returns-then-left_rest-eq0
returns-then-left_rest-eq0 c =
    let z : (c.loop-left.a % c.loop-left.b ≡ 0) ⊎ (c.loop-left.c % c.loop-left.d ≡ 0) = grind arith in
    c.cmp-then-left_rest-eq0.ensures ∙ by_zero _ _ _ _ c.loop-left.invariant.first c.loop-left.invariant.second z ∙ by_rests _ _ _ _ c.if-left-right.false ∙ c.loop-left.invariant.same

pub loop-left-preserved : goal.loop-left-preserved
loop-left-preserved c = record {
  first = omega arith;
  second = omega arith;
  same = loop_step _ _ _ _ c.if-left-right.false ∙ c.loop-left.invariant.same;
}

pub loop-left-smaller : goal.loop-left-smaller
loop-left-smaller c = omega (arith, mod-lt c.loop-left.a c.loop-left.invariant.first, mod-lt c.loop-left.c c.loop-left.invariant.second)
