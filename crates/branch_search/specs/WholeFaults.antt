-- What it says where no verdict of a problem is found.
use Rattle.std.specs.Prelude.{ℕ, List, []}
use Rattle.rational.specs.Rational.{Rational}
use Rattle.milp.specs.Problem.{Problem}
use Rattle.milp.specs.Points.{IsImprovingRay}
use Rattle.branch_search.specs.Faults.{IsStuckAt, IsOutOfPivots, IsOutOfSplits}
use Rattle.branch_search.specs.declared.whole_fault.Wanted.{Wanted}
use Rattle.branch_search.specs.declared.whole_fault.Wanted.TheVariants.{Best, Any}
use Rattle.branch_search.specs.declared.whole_fault.VerdictFault.{VerdictFault}
use Rattle.branch_search.specs.declared.whole_fault.VerdictFault.TheVariants.{NoFit, PivotLimit, SplitLimit, NoMemory}

-- the problem without its objective's form: each feasible point is a best one
abbrev pub without_objective : Problem → Problem
without_objective p = record p { objective = [] }

-- the problem that is searched
abbrev pub searched : Problem → Wanted → Problem
searched p Best = p
searched p Any = without_objective p

-- any point is wanted only where a ray improves the problem
abbrev pub IsWanted : Problem → Wanted → Type 0
IsWanted p Best = Unit {0}
IsWanted p Any = (ray : List Rational) × IsImprovingRay p ray

-- the cause of a fault, where each search may make so many splits, and each run so many pivots
abbrev pub IsFault : Problem → ℕ → ℕ → VerdictFault → Type 0
IsFault p splits pivots (NoFit wanted site) = IsWanted p wanted × IsStuckAt (searched p wanted) [] splits site
IsFault p splits pivots (PivotLimit wanted bases board) = IsWanted p wanted × IsOutOfPivots (searched p wanted) [] splits pivots bases board
IsFault p splits pivots (SplitLimit wanted board) = IsWanted p wanted × IsOutOfSplits (searched p wanted) [] splits pivots board
IsFault p splits pivots NoMemory = Unit {0}

-- the fault is not that the limit of steps was met
abbrev pub IsNotByPivots : VerdictFault → Type 0
IsNotByPivots (PivotLimit wanted bases board) = ⊥
IsNotByPivots fault = Unit {0}

-- a fault after the last search: in the test of the ray that the first one found, or want of memory
abbrev pub IsAfterSearch : Problem → ℕ → VerdictFault → Type 0
IsAfterSearch p splits (NoFit Best site) = IsStuckAt p [] splits site
IsAfterSearch p splits (NoFit Any site) = ⊥
IsAfterSearch p splits (PivotLimit wanted bases board) = ⊥
IsAfterSearch p splits (SplitLimit wanted board) = ⊥
IsAfterSearch p splits NoMemory = Unit {0}
