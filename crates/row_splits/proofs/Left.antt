-- What searches leave that find no verdict, as what is left of the problem.
use Rattle.std.proofs.Common.{◌≡◌, ◌∙◌, ℕ, Bool, true, false, [], refl, sym, ap, subst, Option, Some, None, IfSome, Result, Ok, Err, IfErr, option_map}
use Rattle.milp.specs.Problem.{Problem}
use Rattle.partial_certificate.specs.Partial.{Partial}
use Rattle.partial_certificate.specs.Columns.{IsBySplitsOfColumns}
use Rattle.branch_search.specs.Plain.{NoneInteger}
use Rattle.branch_search.specs.WholeFaults.{IsFault}
use Rattle.branch_search.specs.declared.whole_fault.VerdictFault.{VerdictFault}
use Rattle.branch_search.specs.declared.whole_fault.VerdictFault.TheVariants.{NoFit, PivotLimit, SplitLimit, NoMemory}
use Rattle.stopped_search.specs.Stopped.{shown_at}
use Rattle.stopped_search.specs.declared.fault.Unsolved.{Unsolved}
use Rattle.stopped_search.proofs.Results.{if_some}
use Rattle.row_columns.specs.Extended.{HasRowColumns}
use Rattle.row_columns.specs.Partials.{restored_partial}
use Rattle.row_splits.specs.Searched.{by_rows, continuous, again, IsNotRestored, IsSearchedByRows, restored_of, shown_of_rows, IsUnsolvedBy, IsUnsolvedAt, IsUnsolved}

pub none_derived : (o : Option Partial) → IfSome o IsBySplitsOfColumns → IfSome o (λ c. c.derived ≡ [])
none_derived o h = if_some o IsBySplitsOfColumns (λ c. c.derived ≡ []) (λ c k. k.derived) h

-- ---- what is shown, restored

nothing : (o : Option Partial) → IfSome o (λ c. None ≡ Some c) → o ≡ None
nothing None h = refl
nothing (Some c) h = cc

same_mapped : (f g : Partial → Partial) → ((c : Partial) → f c ≡ g c) → (o : Option Partial) → option_map f o ≡ option_map g o
same_mapped f g same None = refl
same_mapped f g same (Some c) = ap Some (same c)

kept : (f : Partial → Partial) → ((c : Partial) → f c ≡ c) → (shown all : Option Partial) → IfSome shown (λ c. all ≡ Some c) → IfSome shown (λ c. option_map f all ≡ Some c)
kept f same None all h = tt
kept f same (Some c) all h = ap (option_map f) h ∙ ap Some (same c)

made_of : (f : Partial → Partial) (shown made all : Option Partial) → IfSome shown (λ c. all ≡ Some c) → IfSome made (λ c. option_map f shown ≡ Some c) → IfSome made (λ c. option_map f all ≡ Some c)
made_of f shown None all h k = tt
made_of f None (Some m) all h k = cc
made_of f (Some c) (Some m) all h k = ap (option_map f) h ∙ k

-- ---- a search that is left

-- want of memory shows nothing
left_by : (rows : Bool) (p : Problem) (splits pivots : ℕ) (u : Unsolved) → IsUnsolvedBy rows p splits pivots u → IsUnsolved rows p splits pivots u
left_by rows p splits pivots u h = go u.fault refl
  where
    go : (fault : VerdictFault) → u.fault ≡ fault → IsUnsolvedAt fault rows p splits pivots u
    go (NoFit wanted site) e = h
    go (PivotLimit wanted bases board) e = h
    go (SplitLimit wanted board) e = h
    go NoMemory e = nothing u.shown (subst (λ (f : VerdictFault). IfSome u.shown (λ c. option_map (shown_of_rows rows p h.problem h.is_searched) (shown_at f) ≡ Some c)) e h.shown)

-- a search of the problem itself, by splits of columns
pub left_itself : (p : Problem) (splits pivots : ℕ) (fault : VerdictFault) (u : Unsolved) → u.fault ≡ fault → IfSome u.shown (λ c. shown_at fault ≡ Some c) → IsFault p splits pivots fault → IsUnsolved false p splits pivots u
left_itself p splits pivots fault u e shown h =
    left_by false p splits pivots u (record {
      problem = p;
      is_searched = refl;
      is_fault = subst (IsFault p splits pivots) (sym e) h;
      shown = kept (shown_of_rows false p p refl) (λ c. refl) u.shown (shown_at u.fault) (subst (λ (f : VerdictFault). IfSome u.shown (λ c. shown_at f ≡ Some c)) (sym e) shown);
    })

-- a search of the problem with row columns, of which this was shown
pub left_by_rows : (p q : Problem) (r : HasRowColumns p q) (splits pivots : ℕ) (fault : VerdictFault) (shown : Option Partial) (u : Unsolved) → u.fault ≡ fault → IfSome shown (λ c. shown_at fault ≡ Some c)
    → IfSome u.shown (λ made. option_map (restored_partial p r.forms) shown ≡ Some made) → IsFault q splits pivots fault → IsUnsolved true p splits pivots u
left_by_rows p q r splits pivots fault shown u e of made h =
    left_by true p splits pivots u (record {
      problem = q;
      is_searched = by_rows r;
      is_fault = subst (IsFault q splits pivots) (sym e) h;
      shown = made_of (shown_of_rows true p q (by_rows r)) shown u.shown (shown_at u.fault) (subst (λ (f : VerdictFault). IfSome shown (λ c. shown_at f ≡ Some c)) (sym e) of) made;
    })

-- ---- the problem itself, where splits on rows are asked for

module _ (p : Problem) (by_itself : (q : Problem) → q ≡ p → IsSearchedByRows p q) (same : (q : Problem) (e : q ≡ p) (c : Partial) → restored_of p q (by_itself q e) c ≡ c) (splits pivots : ℕ) where
  turned : (u : Unsolved) → IsUnsolvedBy false p splits pivots u → IsUnsolvedBy true p splits pivots u
  turned u h = record {
    problem = h.problem;
    is_searched = by_itself h.problem h.is_searched;
    is_fault = h.is_fault;
    shown = if_some u.shown (λ c. option_map (shown_of_rows false p h.problem h.is_searched) (shown_at u.fault) ≡ Some c) (λ c. option_map (shown_of_rows true p h.problem (by_itself h.problem h.is_searched)) (shown_at u.fault) ≡ Some c)
        (λ c k. same_mapped (shown_of_rows true p h.problem (by_itself h.problem h.is_searched)) (shown_of_rows false p h.problem h.is_searched) (same h.problem h.is_searched) (shown_at u.fault) ∙ k) h.shown;
  }

  turned_at : (u : Unsolved) (fault : VerdictFault) → IsUnsolvedAt fault false p splits pivots u → IsUnsolvedAt fault true p splits pivots u
  turned_at u (NoFit wanted site) h = turned u h
  turned_at u (PivotLimit wanted bases board) h = turned u h
  turned_at u (SplitLimit wanted board) h = turned u h
  turned_at u NoMemory h = h

  turned_in : {A : Type 0} (r : Result A Unsolved) → IfErr r (IsUnsolved false p splits pivots) → IfErr r (IsUnsolved true p splits pivots)
  turned_in (Ok x) h = tt
  turned_in (Err u) h = turned_at u u.fault h

-- what was found with row columns can't be restored
pub left_again : {A : Type 0} (p : Problem) → IsNotRestored p → (splits pivots : ℕ) (r : Result A Unsolved) → IfErr r (IsUnsolved false p splits pivots) → IfErr r (IsUnsolved true p splits pivots)
left_again p unrestored splits pivots r h = turned_in p (λ q e. again unrestored e) (λ q e c. refl) splits pivots r h

-- no column is integer
pub left_continuous : {A : Type 0} (p : Problem) → NoneInteger p.columns → (splits pivots : ℕ) (r : Result A Unsolved) → IfErr r (IsUnsolved false p splits pivots) → IfErr r (IsUnsolved true p splits pivots)
left_continuous p none splits pivots r h = turned_in p (λ q e. continuous none e) (λ q e c. refl) splits pivots r h

pub left_asked : {A : Type 0} (rows asked : Bool) (p : Problem) (splits pivots : ℕ) (r : Result A Unsolved) → rows ≡ asked → IfErr r (IsUnsolved asked p splits pivots) → IfErr r (IsUnsolved rows p splits pivots)
left_asked rows asked p splits pivots r e h = subst (λ (b : Bool). IfErr r (IsUnsolved b p splits pivots)) (sym e) h
