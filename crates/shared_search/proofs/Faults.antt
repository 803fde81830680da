-- Faults that a worker meets at a node are faults of the search.
use Rattle.std.proofs.Common.{◌≡◌, sym, subst, Option, Some, IfSome, Result, Ok, Err, IfErr}
use Rattle.std.specs.Result.{IsErrAnd}
use Rattle.search_tree.specs.Board.{Board}
use Rattle.branch_search.specs.Faults.{IsLeafFault, IsFault}
use Rattle.branch_search.specs.declared.fault.LeafFault.{LeafFault}
use Rattle.branch_search.specs.declared.fault.SearchFault.{SearchFault}
use Rattle.board_pool.specs.Searches.{IsOfSearch}
use Rattle.shared_search.specs.declared.task.Task.{Task}
use Rattle.shared_search.specs.Holders.{IsTaskOf, IsFaultOf}

fault_of_task : (first : Board) (task : Task) (fault : LeafFault) → IsTaskOf first task → IsLeafFault task.problem task.cuts first.split_limit task.pivot_limit fault → IsFaultOf first fault
fault_of_task first task fault of h = rw (sym of.problem, sym of.cuts, sym of.pivot_limit) h

-- a fault that a `?` hands on
pub handed_on : {A : Type 0} (r : Result A LeafFault) (first : Board) (task : Task) (fault : LeafFault) → IsErrAnd r (λ d. d ≡ fault) → IsTaskOf first task → IsLeafFault task.problem task.cuts first.split_limit task.pivot_limit fault → IfErr r (IsFaultOf first)
handed_on (Ok a) first task fault is of h = tt
handed_on (Err d) first task fault is of h = subst (IsFaultOf first) (sym is) (fault_of_task first task fault of h)

-- a fault that a worker kept is one on the board with which the workers end
pub met_on : (first b : Board) (kept : Option LeafFault) (fault made : LeafFault) → IsOfSearch first b → IfSome kept (IsFaultOf first) → kept ≡ Some fault → made ≡ fault → IsLeafFault b.problem b.cuts b.split_limit b.pivot_limit made
met_on first b kept fault made of h is same =
    let met : IsFaultOf first made = subst (IsFaultOf first) (sym same) (subst (λ (o : Option LeafFault). IfSome o (IsFaultOf first)) is h) in
    rw (of.problem, of.cuts, of.split_limit, of.pivot_limit) met

pub fault_of_search : (first b : Board) (fault : SearchFault) → IsOfSearch first b → IsFault b.problem b.cuts b.split_limit b.pivot_limit fault → IsFault first.problem first.cuts first.split_limit first.pivot_limit fault
fault_of_search first b fault of h = rw (sym of.problem, sym of.cuts, sym of.split_limit, sym of.pivot_limit) h
