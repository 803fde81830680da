use Rattle.std.proofs.Common.{◌≡◌, drop}
use Rattle.cert_check.specs.Sums.{with_products, item_products, form_at}
use Rattle.cert_check.specs.declared.kind.Kind.TheVariants.{OfSplit}
use Rattle.cert_check.proofs.sums.with_splits.Given as goal

abbrev pub invariant-loop-item : goal.invariant-loop-item
invariant-loop-item l = with_products l.total (item_products (form_at l.setting OfSplit) (drop l.item-index l.items) l.column) ≡ with_products l.fn.start (item_products (form_at l.setting OfSplit) l.items l.column)
