-- The bounds of columns.
use Rattle.milp.specs.Problem.{Column}
use Rattle.basis.specs.System.{Bounds}

abbrev pub column_bounds : Column → Bounds
column_bounds c = record { lower = c.lower; upper = c.upper }
