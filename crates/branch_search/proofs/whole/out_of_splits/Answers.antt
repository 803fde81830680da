use Rattle.branch_search.proofs.Ends.{out_of_splits}
use Rattle.branch_search.proofs.whole.out_of_splits.Goals as goal

pub returns-in-Ok : goal.returns-in-Ok
returns-in-Ok c = out_of_splits c.args.board c.in-Ok.board c.requires.at_end c.requires.unfinished c.in-Ok.ensures.back c.in-Ok.ensures.kept c.in-Ok.ensures.stopped
