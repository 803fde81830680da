use Rattle.std.proofs.Common.{◌≡◌, drop}
use Rattle.cert_check.specs.Sums.{with_bounds, bound_of}
use Rattle.cert_check.proofs.sums.with_bounds.Given as goal

abbrev pub invariant-loop-item : goal.invariant-loop-item
invariant-loop-item l = with_bounds (bound_of l.setting l.kind) l.total (drop l.item-index l.items) ≡ with_bounds (bound_of l.setting l.kind) l.fn.start l.items
