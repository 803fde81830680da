use Rattle.std.proofs.Common.{ℕ, ◌<◌, ◌≤◌, ◌-◌, IfSome, slice_get, length}
use Rattle.verdicts.specs.Proves.{MeetsDerived}
use Rattle.search_tree.proofs.points.meets_cuts.Given as goal

abbrev pub invariant-loop-k : goal.invariant-loop-k
invariant-loop-k l = record {
  at_most : l.k ≤ length l.cuts;
  met : (n : ℕ) → n < l.k → IfSome (slice_get l.cuts n) (MeetsDerived l.x);
}

abbrev pub decreases-loop-k : goal.decreases-loop-k
decreases-loop-k l = length l.cuts - l.k
