-- What is read of the whole is what is read from here.
use Rattle.std.proofs.Common.{◌≡◌, drop}
use Rattle.gmpl_load.specs.Tabbing.{cells}
use Rattle.gmpl_load.proofs.tabbing.cells.Given as goal

abbrev pub invariant-loop-place : goal.invariant-loop-place
invariant-loop-place l = cells l.parameters l.member l.fn.tables l.fn.tokens ≡ cells (drop l.place-index l.parameters) l.member l.tables l.tokens
