use Rattle.std.proofs.Common.{◌≡◌, drop}
use Rattle.cert_check.specs.Sums.{form_at}
use Rattle.cert_check.specs.Totals.{with_forms}
use Rattle.cert_check.proofs.totals.add_forms.Given as goal

abbrev pub invariant-loop-item : goal.invariant-loop-item
invariant-loop-item l = with_forms (form_at l.setting l.kind) (drop l.item-index l.items) l.totals ≡ with_forms (form_at l.setting l.kind) l.items l.initial.totals
