-- Problems of which no whole numbers are asked.
use Rattle.std.specs.Prelude.{false, map}
use Rattle.milp.specs.Problem.{Column, Problem}

-- the same column, which takes all numbers within its bounds
abbrev pub continuous : Column → Column
continuous c = record c { integer = false }

-- the same problem without integrality: its linear relaxation
abbrev pub without_integrality : Problem → Problem
without_integrality p = record p { columns = map continuous p.columns }
