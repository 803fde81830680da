use Rattle.std.proofs.Common.{◌≡◌, take}
use Rattle.infeasible_subset.specs.Members.{OfRow, has}
use Rattle.infeasible_subset.specs.Subsets.{sub_rows}
use Rattle.infeasible_subset.proofs.parts.add_rows.Given as goal

abbrev pub invariant-loop-row : goal.invariant-loop-row
invariant-loop-row l = (l.place ≡ l.row-index) × (l.builder ≡ record l.initial.builder { rows = sub_rows (λ i s. has l.members (OfRow i s)) (take l.row-index l.rows) })
