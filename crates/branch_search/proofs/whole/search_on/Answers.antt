use Rattle.branch_search.proofs.SameSearch.{leaf_fault_there, fault_before}
use Rattle.branch_search.proofs.whole.search_on.Goals as goal

pub stopped-requires : goal.stopped-requires
stopped-requires c = leaf_fault_there c.args.board c.run.new.board c.in-Err.fault c.run.ensures.same c.in-Err.ensures.fault

pub returns-in-Err-clause-fault : goal.returns-in-Err-clause-fault
returns-in-Err-clause-fault c = fault_before c.args.board c.run.new.board c.args.pivot_limit c.stopped.result c.run.ensures.same c.requires.cuts c.requires.pivots c.stopped.ensures
