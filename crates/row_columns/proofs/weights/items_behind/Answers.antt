use Rattle.std.proofs.Common.{List, sym, subst}
use Rattle.verdicts.specs.Certificate.{Item}
use Rattle.row_columns.specs.Restored.{items_behind}
use Rattle.certificate.specs.Written.{AreItemsFrom}
use Rattle.row_columns.proofs.KeptItems.{in_order, behind_keeps}
use Rattle.row_columns.proofs.weights.items_behind.Goals as goal

pub add_behind-requires : goal.add_behind-requires
add_behind-requires c =
    let items : List Item = c.as_slice-items.result.now in
    let written : AreItemsFrom 0 items = subst (λ (is : List Item). AreItemsFrom 0 is) (sym c.as_slice-items.ensures.items) c.as_slice-items.ensures.written in
    in_order (items_behind c.args.count) (behind_keeps c.args.count) items c.loop-item.item-index c.item-item.result c.loop-item.made c.loop-item-test.true c.item-item.is written c.loop-item.invariant
