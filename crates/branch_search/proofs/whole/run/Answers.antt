use Rattle.branch_search.specs.Underway.{work_left}
use Rattle.branch_search.proofs.Further.{still_going, between, smaller}
use Rattle.branch_search.proofs.SameSearch.{same_then}
use Rattle.branch_search.proofs.whole.run.Goals as goal

pub loop-more-smaller : goal.loop-more-smaller
loop-more-smaller c =
    let most = work_left c.args.board.now in
    let now = still_going most c.loop-more.more c.loop-more.board c.loop-more-test.true c.loop-more.invariant.between in
    smaller c.loop-more.board _ most c.loop-more.more c.in_ok-more.more c.loop-more-test.true c.in_ok-more.ensures.next now.1

pub loop-more-preserved : goal.loop-more-preserved
loop-more-preserved c =
    let most = work_left c.args.board.now in
    let now = still_going most c.loop-more.more c.loop-more.board c.loop-more-test.true c.loop-more.invariant.between in
    record {
      same = same_then c.args.board.now c.loop-more.board _ c.loop-more.invariant.same c.goes_on.ensures.same;
      between = between c.loop-more.board _ most c.in_ok-more.more c.in_ok-more.ensures.next now.1;
    }
