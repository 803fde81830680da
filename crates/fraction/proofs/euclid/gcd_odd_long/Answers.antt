use Rattle.std.proofs.Common.{◌∙◌, arith, ◌≤◌}
use Rattle.fraction.proofs.BinaryLemmas.{less_same, gcd-swap}
use Rattle.fraction.proofs.euclid.gcd_odd_long.Goals as goal

pub loop-y-preserved-then-odd-x : goal.loop-y-preserved-then-odd-x
loop-y-preserved-then-odd-x c =
    let x = c.loop-y.x in
    let odd = c.odd_part_long-odd.result in
    let below : odd ≤ x = omega arith in
    record {
      same = less_same x odd below ∙ c.odd_part_long-odd.ensures.same x c.loop-y.invariant.odd ∙ c.loop-y.invariant.same;
      odd = c.odd_part_long-odd.ensures.odd;
    }

pub loop-y-preserved : goal.loop-y-preserved
loop-y-preserved c =
    let x = c.loop-y.x in
    let odd = c.odd_part_long-odd.result in
    record {
      same = less_same odd x c.if-odd-x.false ∙ gcd-swap odd x ∙ c.odd_part_long-odd.ensures.same x c.loop-y.invariant.odd ∙ c.loop-y.invariant.same;
      odd = c.loop-y.invariant.odd;
    }

pub returns : goal.returns
returns c = c.gcd_with_word.ensures ∙ c.loop-y.invariant.same
