use Rattle.std.proofs.Common.{◌≡◌, drop, []}
use Rattle.indexmap.specs.IndexSet.{insert_all, keys}
use Rattle.gmpl_value.specs.SymbolEquality.{tuple_eq}
use Rattle.gmpl_value.proofs.set_value.SetValue.copied.Given as goal

abbrev pub invariant-loop-tuple : goal.invariant-loop-tuple
invariant-loop-tuple l = insert_all tuple_eq (keys l.members) (drop l.tuple-index l.self) ≡ insert_all tuple_eq [] l.self
