-- Faults of a search as those of the whole.
use Rattle.std.specs.Prelude.{Result, Ok, Err}
use Rattle.branch_search.specs.declared.fault.EndlessAt.{EndlessAt}
use Rattle.branch_search.specs.declared.fault.SearchFault.{SearchFault}
use Rattle.branch_search.specs.declared.fault.SearchFault.TheVariants as in_search
use Rattle.branch_search.specs.declared.whole_fault.Wanted.{Wanted}
use Rattle.branch_search.specs.declared.whole_fault.VerdictFault.{VerdictFault}
use Rattle.branch_search.specs.declared.whole_fault.VerdictFault.TheVariants.{NoFit, PivotLimit, SplitLimit, NoMemory}

-- the ray that a search has found, with its node, or why it found no verdict
abbrev pub ray_or_fault : Wanted → SearchFault → Result EndlessAt VerdictFault
ray_or_fault wanted (in_search.NoFit site) = Err (NoFit wanted site)
ray_or_fault wanted (in_search.PivotLimit bases board) = Err (PivotLimit wanted bases board)
ray_or_fault wanted (in_search.SplitLimit board) = Err (SplitLimit wanted board)
ray_or_fault wanted (in_search.Unbounded endless) = Ok endless
ray_or_fault wanted in_search.NoMemory = Err NoMemory
