use Rattle.std.proofs.Common.{◌≡◌, drop}
use Rattle.cert_check.specs.Sums.{with_products, item_products, form_at}
use Rattle.cert_check.specs.declared.kind.Kind.TheVariants.{OfDerived}
use Rattle.cert_check.proofs.sums.with_derived.Given as goal

abbrev pub invariant-loop-item : goal.invariant-loop-item
invariant-loop-item l = with_products l.total (item_products (form_at l.setting OfDerived) (drop l.item-index l.items) l.column) ≡ with_products l.fn.start (item_products (form_at l.setting OfDerived) l.items l.column)
