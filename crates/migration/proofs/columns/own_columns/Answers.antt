use Rattle.std.proofs.Common.{List}
use Rattle.certificate.specs.Written.{next_rank}
use Rattle.verdicts.specs.Certificate.{Side, Item}
use Rattle.migration.proofs.NamedItems.{own_left, own_order}
use Rattle.migration.proofs.columns.own_columns.Goals as goal

pub loop-item-preserved : goal.loop-item-preserved
loop-item-preserved c =
    let sides : List Side = c.args.turns.now in
    let new : List Item = c.keep_own.new.own in
    record {
      left = own_left c.args.problem.now sides c.as_slice-items.result.now c.loop-item.item-index c.item-item.result c.loop-item.own new _ c.loop-item-test.true c.item-item.is c.loop-item.invariant.left c.in_ok-keep_own.ensures.kept;
      order = own_order c.as_slice-items.result.now c.loop-item.item-index (next_rank 0 c.loop-item.own) (next_rank 0 new) c.item-item.result c.loop-item-test.true c.item-item.is c.loop-item.invariant.order c.in_ok-keep_own.ensures.next;
    }
