-- The problem of a finished declaration.
use Rattle.std.specs.Prelude.{List, [], map, codes, Some, None}
use Rattle.std.specs.declared.option.Option.{Option}
use Rattle.std.specs.Option.{option_map_or}
use Rattle.rational.specs.Rational.{Rational, zero_ℚ, neg_ℚ}
use Rattle.milp.specs.Problem.{Column, Row, Problem}
use Rattle.milp.specs.declared.Direction.{Direction}
use Rattle.mps_draft.specs.declared.row.RowKind.{RowKind}
use Rattle.mps_draft.specs.declared.row.RowRange.{RowRange}
use Rattle.mps_draft.specs.declared.row.RowKind.TheVariants.{Objective, Free, AtMost, AtLeast, Exactly}
use Rattle.mps_draft.specs.Declaration.{DeclaredRow, Declaration}
use Rattle.mps_draft.specs.Rows.{rhs_of}

-- the bounds of a row of this kind, by its right-hand side b and its range

abbrev pub row_lower : RowKind → Rational → Option RowRange → Option Rational
row_lower kind b (Some range) = Some range.lower
row_lower Objective b None = None
row_lower Free b None = None
row_lower AtMost b None = None
row_lower AtLeast b None = Some b
row_lower Exactly b None = Some b

abbrev pub row_upper : RowKind → Rational → Option RowRange → Option Rational
row_upper kind b (Some range) = Some range.upper
row_upper Objective b None = None
row_upper Free b None = None
row_upper AtMost b None = Some b
row_upper AtLeast b None = None
row_upper Exactly b None = Some b

abbrev pub finished_row : DeclaredRow → Row
finished_row r = record {
  name = r.name;
  lower = row_lower r.kind (rhs_of r) r.range;
  upper = row_upper r.kind (rhs_of r) r.range;
  entries = r.entries;
}

-- a right-hand side v of the objective adds -v to it; without one it is nothing, by the name `obj`
abbrev pub problem_with : Direction → List Column → List Row → Option DeclaredRow → Problem
problem_with direction columns rows None = record {
  columns = columns;
  rows = rows;
  direction = direction;
  objective_name = codes "obj";
  objective = [];
  constant = zero_ℚ;
}
problem_with direction columns rows (Some objective) = record {
  columns = columns;
  rows = rows;
  direction = direction;
  objective_name = objective.name;
  objective = objective.entries;
  constant = option_map_or neg_ℚ objective.rhs zero_ℚ;
}

abbrev pub problem_of : Declaration → Problem
problem_of d = problem_with d.direction d.columns (map finished_row d.rows) d.objective
