use Rattle.std.proofs.Common.{◌∙◌, sym, ap, arith, ◌≤◌}
use Rattle.integer.specs.Gcd.{gcd as gcd_of}
use Rattle.integer.proofs.Laws.{gcd_end}
use Rattle.fraction.proofs.BinaryLemmas.{less_same, gcd-swap}
use Rattle.fraction.proofs.euclid.gcd_odd.Goals as goal

pub loop-y-preserved-then-odd-x : goal.loop-y-preserved-then-odd-x
loop-y-preserved-then-odd-x c =
    let x = c.loop-y.x in
    let odd = c.odd_part-odd.result in
    let below : odd ≤ x = omega arith in
    record {
      same = less_same x odd below ∙ c.odd_part-odd.ensures.same x c.loop-y.invariant.odd ∙ c.loop-y.invariant.same;
      odd = c.odd_part-odd.ensures.odd;
      small = omega arith;
    }

pub loop-y-preserved : goal.loop-y-preserved
loop-y-preserved c =
    let x = c.loop-y.x in
    let odd = c.odd_part-odd.result in
    record {
      same = less_same odd x c.if-odd-x.false ∙ gcd-swap odd x ∙ c.odd_part-odd.ensures.same x c.loop-y.invariant.odd ∙ c.loop-y.invariant.same;
      odd = c.loop-y.invariant.odd;
      small = c.loop-y.invariant.small;
    }

pub returns-clause-value : goal.returns-clause-value
returns-clause-value c = sym (gcd_end _) ∙ ap (λ n. gcd_of c.loop-y.x n) (omega arith) ∙ c.loop-y.invariant.same
