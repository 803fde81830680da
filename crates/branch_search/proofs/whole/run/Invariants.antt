use Rattle.std.proofs.Common.{suc, cond}
use Rattle.branch_search.specs.Underway.{work_left, AreSame}
use Rattle.branch_search.proofs.Further.{IsBetween, weight}
use Rattle.branch_search.proofs.whole.run.Given as goal

abbrev pub invariant-loop-more : goal.invariant-loop-more
invariant-loop-more l = record {
  same : AreSame l.initial.board l.board;
  between : IsBetween (work_left l.initial.board) l.more l.board;
}

abbrev pub decreases-loop-more : goal.decreases-loop-more
decreases-loop-more l = cond l.more (suc (weight (work_left l.initial.board) l.board)) 0
