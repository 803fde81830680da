use Rattle.std.proofs.Common.{◌≡◌, take}
use Rattle.infeasible_subset.specs.Members.{OfColumn, has}
use Rattle.infeasible_subset.specs.Subsets.{sub_columns}
use Rattle.infeasible_subset.proofs.parts.add_columns.Given as goal

abbrev pub invariant-loop-column : goal.invariant-loop-column
invariant-loop-column l = (l.place ≡ l.column-index) × (l.builder ≡ record l.initial.builder { columns = sub_columns (λ j s. has l.members (OfColumn j s)) (take l.column-index l.columns) })
