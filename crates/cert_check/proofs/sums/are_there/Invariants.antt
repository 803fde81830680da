use Rattle.std.proofs.Common.{◌≡◌, drop}
use Rattle.cert_check.specs.Sums.{are_there, bound_of}
use Rattle.cert_check.proofs.sums.are_there.Given as goal

abbrev pub invariant-loop-item : goal.invariant-loop-item
invariant-loop-item l = are_there (bound_of l.setting l.kind) (drop l.item-index l.items) ≡ are_there (bound_of l.setting l.kind) l.items
