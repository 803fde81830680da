use Rattle.std.proofs.Common.{◌∙◌, List, ap, sym, take, arith}
use Rattle.verdicts.specs.Certificate.{Side as SideOf}
use Rattle.verdicts.specs.Proves.{lower_under}
use Rattle.search_node.specs.Sides.{sides_of}
use Rattle.search_tree.proofs.Paths.{next_side}
use Rattle.search_tree.proofs.bounds.lower_below.Goals as goal

pub loop-k-preserved : goal.loop-k-preserved
loop-k-preserved c =
    let p = c.args.problem.now in
    let splits = c.args.splits.now in
    record {
      at_most = omega (arith, c.loop-k-test.true);
      bound = c.in_ok-bound.ensures p (sides_of (take c.loop-k.k splits)) c.loop-k.invariant.bound ∙ ap (λ (sides : List SideOf). lower_under p sides c.args.column) (sym (next_side splits c.loop-k.k c.index-splits-k.result c.loop-k-test.true c.index-splits-k.is));
    }
