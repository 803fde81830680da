use Rattle.std.proofs.Common.{◌++◌, List, ap, sym, subst}
use Rattle.verdicts.specs.Certificate.{Item}
use Rattle.certificate.specs.Written.{next_rank}
use Rattle.migration.proofs.Order.{AreInOrder, all_in_order}
use Rattle.migration.proofs.splits.to_items.Goals as goal

pub loop-item-init : goal.loop-item-init
loop-item-init c = record {
  left = ap (λ (is : List Item). is ++ c.args.named.now) c.new-items.ensures;
  order = subst (λ (is : List Item). AreInOrder (next_rank 0 is) c.args.named.now) (sym c.new-items.ensures) (all_in_order c.args.named.now c.requires.order c.requires.positive c.requires.indices);
}
