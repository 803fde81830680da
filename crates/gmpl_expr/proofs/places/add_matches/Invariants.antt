use Rattle.std.proofs.Common.{◌≡◌, drop}
use Rattle.gmpl_meaning.specs.Walks as walks
use Rattle.gmpl_expr.proofs.places.add_matches.Given as goal

abbrev pub invariant-loop-tuple : goal.invariant-loop-tuple
invariant-loop-tuple l = walks.with_matches l.initial.found l.element l.value.pattern l.value.set.value ≡ walks.with_matches l.found l.element l.value.pattern (drop l.tuple-index l.value.set.value)
