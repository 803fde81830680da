use Rattle.std.proofs.Common.{arith, subst}
use Rattle.verdicts.specs.Certificate.{Item}
use Rattle.search_tree.specs.Told.{IsRowAtRest}
use Rattle.search_tree.proofs.NodePoints.{one_more, all_hold}
use Rattle.search_tree.proofs.telling.are_rows_at_rest.Goals as goal

pub loop-k-preserved : goal.loop-k-preserved
loop-k-preserved c = record {
  at_most = omega (arith, c.loop-k-test.true);
  rest = one_more (λ k (i : Item). IsRowAtRest c.args.problem.now c.args.x.now i.index) c.args.items.now c.loop-k.k c.index-items-k.result c.loop-k-test.true c.index-items-k.is (subst (λ (i : Item). IsRowAtRest c.args.problem.now c.args.x.now i.index) c.item.view_is (c.is_row_at_rest.ensures c.if-not-is_row_at_rest.false)) c.loop-k.invariant.rest;
}

pub returns : goal.returns
returns c = λ t. all_hold (λ k (i : Item). IsRowAtRest c.args.problem.now c.args.x.now i.index) c.args.items.now c.loop-k.k (omega (arith, c.loop-k-test.false)) c.loop-k.invariant.rest
