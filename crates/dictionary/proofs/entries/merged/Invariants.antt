use Rattle.dictionary.proofs.EntrySums.{IsUnderWay}
use Rattle.dictionary.proofs.entries.merged.Given as goal

abbrev pub invariant-loop-entry : goal.invariant-loop-entry
invariant-loop-entry l = IsUnderWay l.old l.factor l.added l.entry-index l.entries.items l.rest
