use Rattle.std.proofs.Common.{◌≡◌, ◌++◌, map, take, Some}
use Rattle.glpsol_cli.proofs.inputs.add_names.Given as goal

abbrev pub invariant-loop-name : goal.invariant-loop-name
invariant-loop-name l = l.sources.items ≡ l.initial.sources.items ++ map Some (take l.name-index l.more)
