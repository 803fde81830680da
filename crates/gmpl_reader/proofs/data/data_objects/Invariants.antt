-- What is made, then the rest.
use Rattle.std.proofs.Common.{◌≡◌, ◌++◌, drop}
use Rattle.gmpl_reader.specs.Data.{data_objects}
use Rattle.gmpl_reader.proofs.data.data_objects.Given as goal

abbrev pub invariant-loop-place : goal.invariant-loop-place
invariant-loop-place l = data_objects l.statements l.objects ≡ l.made.items ++ data_objects (drop l.place l.statements) (drop l.place l.objects)
