-- What is looked at, then the rest.
use Rattle.std.proofs.Common.{◌≡◌, drop}
use Rattle.gmpl_kinds.specs.Kinds.{is_indexed, all_entry_parts}
use Rattle.gmpl_kinds.proofs.kinds.is_indexed.Given as goal

abbrev pub invariant-loop-one : goal.invariant-loop-one
invariant-loop-one l = is_indexed (all_entry_parts l.fn.objects l.fn.site l.entries) ≡ is_indexed (all_entry_parts l.fn.objects l.fn.site (drop l.one-index l.entries))
