-- Which problem is searched where a search may use cuts, and what it leaves where it finds no verdict.
use Rattle.std.specs.Prelude.{ℕ, ◌≡◌, Bool, true, false, List, Some, None, option_map, IfSome}
use Rattle.milp.specs.Problem.{Problem}
use Rattle.verdicts.specs.Certificate.{Derived}
use Rattle.partial_certificate.specs.Partial.{Partial}
use Rattle.branch_search.specs.WholeFaults.{IsFault}
use Rattle.branch_search.specs.declared.whole_fault.VerdictFault.{VerdictFault}
use Rattle.branch_search.specs.declared.whole_fault.VerdictFault.TheVariants.{NoFit, PivotLimit, SplitLimit, NoMemory}
use Rattle.stopped_search.specs.Stopped.{shown_at}
use Rattle.stopped_search.specs.declared.fault.Unsolved.{Unsolved}
use Rattle.cut_rows.specs.CutProblem.{IsCutProblem}
use Rattle.cut_rows.specs.Partials.{restored_partial}
use Rattle.root_cuts.specs.RootCuts.{AreRootCuts}
use Rattle.row_splits.specs.Searched.{IsSearched as IsSearchedByRows, shown_of_rows}

-- r is p, or p with rows for cuts of its root
pub data IsWithCuts (p r : Problem) : Type 0 where
  itself : r ≡ p → IsWithCuts p r
  with_cuts : (cuts : List Derived) → AreRootCuts p cuts → IsCutProblem p cuts r → IsWithCuts p r

-- the same, where cuts are asked for or not
abbrev pub MayHaveCuts : Bool → Problem → Problem → Type 0
MayHaveCuts false p r = r ≡ p
MayHaveCuts true p r = IsWithCuts p r

-- q is searched for p, where cuts and splits on rows are asked for or not
pub record IsSearched (cuts rows : Bool) (p q : Problem) : Type 0 where
  pub cut : Problem
  pub may_have_cuts : MayHaveCuts cuts p cut
  pub is_searched : IsSearchedByRows rows cut q

-- what is shown of r, as something shown of p: restored where r has rows for cuts
abbrev pub uncut_of : (p r : Problem) → IsWithCuts p r → Partial → Partial
uncut_of p r (itself is) c = c
uncut_of p r (with_cuts cuts are_cuts is_cut) c = restored_partial p cuts c

-- the same, where cuts are asked for or not
abbrev pub uncut : (cuts : Bool) (p r : Problem) → MayHaveCuts cuts p r → Partial → Partial
uncut false p r may c = c
uncut true p r may c = uncut_of p r may c

-- what is shown of the problem that is searched, as something shown of p
abbrev pub shown_of_search : (cuts rows : Bool) (p q : Problem) → IsSearched cuts rows p q → Partial → Partial
shown_of_search cuts rows p q searched c = uncut cuts p searched.cut searched.may_have_cuts (shown_of_rows rows searched.cut q searched.is_searched c)

-- why there is no verdict, in the problem that is searched, and what was shown of p
pub record IsUnsolvedBy (cuts rows : Bool) (p : Problem) (splits pivots : ℕ) (u : Unsolved) : Type 0 where
  pub problem : Problem
  pub is_searched : IsSearched cuts rows p problem
  pub is_fault : IsFault problem splits pivots u.fault
  pub shown : IfSome u.shown (λ c. option_map (shown_of_search cuts rows p problem is_searched) (shown_at u.fault) ≡ Some c)

-- the same where this is the fault: want of memory has no cause, and shows nothing
abbrev pub IsUnsolvedAt : VerdictFault → Bool → Bool → Problem → ℕ → ℕ → Unsolved → Type 0
IsUnsolvedAt (NoFit wanted site) cuts rows p splits pivots u = IsUnsolvedBy cuts rows p splits pivots u
IsUnsolvedAt (PivotLimit wanted bases board) cuts rows p splits pivots u = IsUnsolvedBy cuts rows p splits pivots u
IsUnsolvedAt (SplitLimit wanted board) cuts rows p splits pivots u = IsUnsolvedBy cuts rows p splits pivots u
IsUnsolvedAt NoMemory cuts rows p splits pivots u = u.shown ≡ None

-- what a search of p leaves that finds no verdict
abbrev pub IsUnsolved : Bool → Bool → Problem → ℕ → ℕ → Unsolved → Type 0
IsUnsolved cuts rows p splits pivots u = IsUnsolvedAt u.fault cuts rows p splits pivots u
