use Rattle.std.proofs.Common.{◌≡◌, subst}
use Rattle.search_tree.specs.Board.{Board}
use Rattle.branch_search.specs.Faults.{IsLeafFault}
use Rattle.branch_search.specs.declared.fault.LeafFault.{LeafFault}
use Rattle.branch_search.specs.declared.fault.LeafFault.TheVariants.{NoFit, PivotLimit, Unbounded}
use Rattle.branch_search.proofs.stopping.stopped.Goals as goal

-- the cause of a fault that is this one
here : (b : Board) (fault this : LeafFault) → fault ≡ this → IsLeafFault b.problem b.cuts b.split_limit b.pivot_limit fault → IsLeafFault b.problem b.cuts b.split_limit b.pivot_limit this
here b fault this is h = subst (IsLeafFault b.problem b.cuts b.split_limit b.pivot_limit) is h

pub returns-in-NoFit : goal.returns-in-NoFit
returns-in-NoFit c = here c.args.board c.args.fault (NoFit c.in-NoFit.site) c.in-NoFit.is c.requires

pub returns-in-Ok : goal.returns-in-Ok
returns-in-Ok c = record { run = here c.args.board c.args.fault (PivotLimit c.in-PivotLimit.bases) c.in-PivotLimit.is c.requires; stopped = c.in-Ok.ensures.stopped }

pub returns-in-Unbounded : goal.returns-in-Unbounded
returns-in-Unbounded c = here c.args.board c.args.fault (Unbounded c.in-Unbounded.endless) c.in-Unbounded.is c.requires
