-- The keys so far, and then those of the rest.
use Rattle.std.proofs.Common.{◌≡◌, drop}
use Rattle.gmpl_table_data.specs.TableData.{with_keys, no_keys}
use Rattle.gmpl_table_data.proofs.sets.keys_of.Given as goal

abbrev pub invariant-loop-place : goal.invariant-loop-place
invariant-loop-place l = with_keys l.table no_keys ≡ with_keys (drop l.place l.table) l.joined
