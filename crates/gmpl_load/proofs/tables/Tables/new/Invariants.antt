-- What is made, and then the rest.
use Rattle.std.proofs.Common.{◌≡◌, ◌++◌, ◌-◌}
use Rattle.gmpl_load.specs.Tables.{nothing_for}
use Rattle.gmpl_load.proofs.tables.Tables.new.Given as goal

abbrev pub invariant-loop-object : goal.invariant-loop-object
invariant-loop-object l = nothing_for l.count ≡ l.objects.items ++ nothing_for (l.count - l._object)
