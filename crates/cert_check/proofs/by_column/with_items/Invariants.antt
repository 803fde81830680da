use Rattle.std.proofs.Common.{◌≡◌, drop}
use Rattle.std.specs.Prelude.{slice_get}
use Rattle.instance.specs.Sums.{form_of}
use Rattle.cert_check.specs.Sums.{with_products, item_products}
use Rattle.cert_check.proofs.by_column.with_items.Given as goal

abbrev pub invariant-loop-item : goal.invariant-loop-item
invariant-loop-item l = with_products l.total (item_products (λ i. form_of (slice_get l.problem.rows i)) (drop l.item-index l.items) l.column) ≡ with_products l.fn.start (item_products (λ i. form_of (slice_get l.problem.rows i)) l.items l.column)
