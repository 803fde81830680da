-- Which problem is searched where a search may split on rows, and what it leaves where it finds no verdict.
use Rattle.std.specs.Prelude.{ℕ, ◌≡◌, ◌≢◌, Bool, true, false, List, Some, None, option_map, IfSome}
use Rattle.milp.specs.Form.{Entry}
use Rattle.milp.specs.Problem.{Problem}
use Rattle.verdicts.specs.Certificate.{Certificate}
use Rattle.cert_check.specs.Outcome.{Acceptance, outcome, trials}
use Rattle.partial_certificate.specs.Partial.{Partial}
use Rattle.branch_search.specs.Plain.{NoneInteger}
use Rattle.branch_search.specs.WholeFaults.{IsFault}
use Rattle.branch_search.specs.declared.whole_fault.VerdictFault.{VerdictFault}
use Rattle.branch_search.specs.declared.whole_fault.VerdictFault.TheVariants.{NoFit, PivotLimit, SplitLimit, NoMemory}
use Rattle.stopped_search.specs.Stopped.{shown_at}
use Rattle.stopped_search.specs.declared.fault.Unsolved.{Unsolved}
use Rattle.row_columns.specs.RowForms.{AreRowForms}
use Rattle.row_columns.specs.Extended.{IsExtended, HasRowColumns}
use Rattle.row_columns.specs.Restored.{restored, IsBySplitsOfColumns}
use Rattle.row_columns.specs.Partials.{restored_partial}

-- A certificate is found of the problem with row columns, which the checker accepts, and which it does not accept once it is
-- restored: since this proves its verdict too, an operation of its test doesn't fit.
pub record IsNotRestored (p : Problem) : Type 0 where
  pub forms : List (List Entry)
  pub are_forms : AreRowForms p p.rows forms
  pub problem : Problem
  pub extended : IsExtended p forms problem
  pub certificate : Certificate
  pub splits : IsBySplitsOfColumns certificate
  pub accepted : outcome (trials problem certificate) ≡ Acceptance
  pub not_accepted : outcome (trials p (restored p forms certificate)) ≢ Acceptance

-- q is searched for p where splits on rows are asked for: p with row columns; p itself where no column is integer, or where what
-- is found of p with row columns can't be restored
pub data IsSearchedByRows (p q : Problem) : Type 0 where
  by_rows : HasRowColumns p q → IsSearchedByRows p q
  continuous : NoneInteger p.columns → q ≡ p → IsSearchedByRows p q
  again : IsNotRestored p → q ≡ p → IsSearchedByRows p q

-- q is searched for p, where splits on rows are asked for or not
abbrev pub IsSearched : Bool → Problem → Problem → Type 0
IsSearched false p q = q ≡ p
IsSearched true p q = IsSearchedByRows p q

-- what is shown of the problem that is searched, as something shown of p: restored where that one has row columns
abbrev pub restored_of : (p q : Problem) → IsSearchedByRows p q → Partial → Partial
restored_of p q (by_rows h) c = restored_partial p h.forms c
restored_of p q (continuous none is) c = c
restored_of p q (again not_restored is) c = c

-- the same, where splits on rows are asked for or not
abbrev pub shown_of_rows : (rows : Bool) (p q : Problem) → IsSearched rows p q → Partial → Partial
shown_of_rows false p q searched c = c
shown_of_rows true p q searched c = restored_of p q searched c

-- why there is no verdict, in the problem that is searched, and what was shown of p
pub record IsUnsolvedBy (rows : Bool) (p : Problem) (splits pivots : ℕ) (u : Unsolved) : Type 0 where
  pub problem : Problem
  pub is_searched : IsSearched rows p problem
  pub is_fault : IsFault problem splits pivots u.fault
  pub shown : IfSome u.shown (λ c. option_map (shown_of_rows rows p problem is_searched) (shown_at u.fault) ≡ Some c)

-- the same where this is the fault: want of memory has no cause, and shows nothing
abbrev pub IsUnsolvedAt : VerdictFault → Bool → Problem → ℕ → ℕ → Unsolved → Type 0
IsUnsolvedAt (NoFit wanted site) rows p splits pivots u = IsUnsolvedBy rows p splits pivots u
IsUnsolvedAt (PivotLimit wanted bases board) rows p splits pivots u = IsUnsolvedBy rows p splits pivots u
IsUnsolvedAt (SplitLimit wanted board) rows p splits pivots u = IsUnsolvedBy rows p splits pivots u
IsUnsolvedAt NoMemory rows p splits pivots u = u.shown ≡ None

-- what a search of p leaves that finds no verdict
abbrev pub IsUnsolved : Bool → Problem → ℕ → ℕ → Unsolved → Type 0
IsUnsolved rows p splits pivots u = IsUnsolvedAt u.fault rows p splits pivots u
