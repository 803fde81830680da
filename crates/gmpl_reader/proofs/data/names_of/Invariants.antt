-- What is found, then the rest.
use Rattle.std.proofs.Common.{◌≡◌, ◌++◌, drop}
use Rattle.gmpl_reader.specs.Names.{names_of}
use Rattle.gmpl_reader.proofs.data.names_of.Given as goal

abbrev pub invariant-loop-numbered : goal.invariant-loop-numbered
invariant-loop-numbered l = names_of l.statements ≡ l.names ++ names_of (drop l.numbered-index l.statements)
