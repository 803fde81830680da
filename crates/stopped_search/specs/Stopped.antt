-- What a search that came to a limit has shown of its problem.
use Rattle.std.specs.Prelude.{map, Option, Some, None}
use Rattle.verdicts.specs.Certificate.{Branch, Empty, Bound}
use Rattle.partial_certificate.specs.Partial.{PartialNode, Done, Todo, Partial}
use Rattle.search_tree.specs.Board.{Board}
use Rattle.tree_pool.specs.Shown.{shown_of}
use Rattle.branch_search.specs.declared.whole_fault.Wanted.{Wanted}
use Rattle.branch_search.specs.declared.whole_fault.Wanted.TheVariants.{Best, Any}
use Rattle.branch_search.specs.declared.whole_fault.VerdictFault.{VerdictFault}
use Rattle.branch_search.specs.declared.whole_fault.VerdictFault.TheVariants.{NoFit, PivotLimit, SplitLimit, NoMemory}

-- a leaf that is closed since nothing in it is better than the best point is left to do, where the best point is not kept
abbrev pub open_again : PartialNode → PartialNode
open_again (Done (Branch s)) = Done (Branch s)
open_again (Done (Empty w)) = Done (Empty w)
open_again (Done (Bound w)) = Todo
open_again Todo = Todo

-- without the best point
abbrev pub without_best : Partial → Partial
without_best c = record c { best = None; tree = map open_again c.tree }

-- what the board of a search has shown of the problem; where any point was wanted the objective was left out, so no value is kept
abbrev pub shown_for : Wanted → Board → Partial
shown_for Best b = shown_of b
shown_for Any b = without_best (shown_of b)

-- what the fault of a search shows: something where it came to a limit
abbrev pub shown_at : VerdictFault → Option Partial
shown_at (NoFit wanted site) = None
shown_at (PivotLimit wanted bases board) = Some (shown_for wanted board)
shown_at (SplitLimit wanted board) = Some (shown_for wanted board)
shown_at NoMemory = None
