-- What a search of the problem with cuts, or without, leaves of the problem itself.
use Rattle.std.proofs.Common.{◌≡◌, ◌∙◌, ℕ, Bool, true, false, List, length, refl, sym, ap, subst, Option, Some, None, IfSome, Result, Ok, Err, IfErr, option_map}
use Rattle.milp.specs.Problem.{Problem}
use Rattle.verdicts.specs.Certificate.{Derived, Certificate}
use Rattle.verdicts.specs.Proves.{Proves}
use Rattle.partial_certificate.specs.Partial.{Partial}
use Rattle.branch_search.specs.WholeFaults.{IsFault}
use Rattle.branch_search.specs.declared.whole_fault.VerdictFault.{VerdictFault}
use Rattle.branch_search.specs.declared.whole_fault.VerdictFault.TheVariants.{NoFit, PivotLimit, SplitLimit, NoMemory}
use Rattle.stopped_search.specs.Stopped.{shown_at}
use Rattle.stopped_search.specs.declared.fault.Unsolved.{Unsolved}
use Rattle.cut_rows.specs.CutProblem.{IsCutProblem}
use Rattle.cut_rows.specs.Partials.{restored_partial}
use Rattle.root_cuts.specs.RootCuts.{AreRootCuts}
use Rattle.row_splits.specs.Searched.{IsUnsolvedBy as IsRowUnsolvedBy, IsUnsolvedAt as IsRowUnsolvedAt, IsUnsolved as IsRowUnsolved, shown_of_rows}
use Rattle.row_splits.proofs.Laws.{own_size}
use Rattle.cut_search.specs.Searched.{itself, with_cuts, MayHaveCuts, uncut, IsSearched, shown_of_search, IsUnsolvedBy, IsUnsolvedAt, IsUnsolved}

-- ---- the problem itself, or with cuts

by_itself : (cuts : Bool) (p : Problem) → MayHaveCuts cuts p p
by_itself false p = refl
by_itself true p = itself refl

uncut_itself : (cuts : Bool) (p : Problem) (c : Partial) → uncut cuts p p (by_itself cuts p) c ≡ c
unfolding by_itself
uncut_itself false p c = refl
uncut_itself true p c = refl

behind_cuts : (asked : Bool) (p r : Problem) (cuts : List Derived) → asked ≡ true → AreRootCuts p cuts → IsCutProblem p cuts r → MayHaveCuts asked p r
behind_cuts true p r cuts e are is = with_cuts cuts are is
behind_cuts false p r cuts e are is = cc

uncut_behind : (asked : Bool) (p r : Problem) (cuts : List Derived) (e : asked ≡ true) (are : AreRootCuts p cuts) (is : IsCutProblem p cuts r) (c : Partial) → uncut asked p r (behind_cuts asked p r cuts e are is) c ≡ restored_partial p cuts c
unfolding behind_cuts
uncut_behind true p r cuts e are is c = refl
uncut_behind false p r cuts e are is c = cc

-- ---- what is shown, restored

joined_map : (f g h : Partial → Partial) → ((c : Partial) → h c ≡ f (g c)) → (o : Option Partial) → option_map h o ≡ option_map f (option_map g o)
joined_map f g h same None = refl
joined_map f g h same (Some c) = ap Some (same c)

-- what is shown of r, restored, is shown of p
made_of : (f g h : Partial → Partial) → ((c : Partial) → h c ≡ f (g c)) → (shown made all : Option Partial) → IfSome shown (λ c. option_map g all ≡ Some c) → IfSome made (λ c. option_map f shown ≡ Some c) → IfSome made (λ c. option_map h all ≡ Some c)
made_of f g h same shown None all k l = tt
made_of f g h same None (Some m) all k l = cc
made_of f g h same (Some c) (Some m) all k l = joined_map f g h same all ∙ ap (option_map f) k ∙ l

module _ (cuts rows : Bool) (p r : Problem) (splits pivots : ℕ) (may : MayHaveCuts cuts p r) (f : Partial → Partial) (same : (c : Partial) → uncut cuts p r may c ≡ f c) where
  left_by : (u v : Unsolved) → v.fault ≡ u.fault → IfSome v.shown (λ made. option_map f u.shown ≡ Some made) → IsRowUnsolvedBy rows r splits pivots u → IsUnsolvedBy cuts rows p splits pivots v
  left_by u v e made h =
      let searched : IsSearched cuts rows p h.problem = record { cut = r; may_have_cuts = may; is_searched = h.is_searched } in
      record {
        problem = h.problem;
        is_searched = searched;
        is_fault = subst (λ (fault : VerdictFault). IsFault h.problem splits pivots fault) (sym e) h.is_fault;
        shown = subst (λ (fault : VerdictFault). IfSome v.shown (λ c. option_map (shown_of_search cuts rows p h.problem searched) (shown_at fault) ≡ Some c)) (sym e)
            (made_of f (shown_of_rows rows r h.problem h.is_searched) (shown_of_search cuts rows p h.problem searched) (λ c. same (shown_of_rows rows r h.problem h.is_searched c)) u.shown v.shown (shown_at u.fault) h.shown made);
      }

  nothing : (shown made : Option Partial) → shown ≡ None → IfSome made (λ c. option_map f shown ≡ Some c) → made ≡ None
  nothing shown None e h = refl
  nothing None (Some m) e h = cc
  nothing (Some c) (Some m) e h = cc

  left_at : (u v : Unsolved) (fault : VerdictFault) → v.fault ≡ u.fault → IfSome v.shown (λ made. option_map f u.shown ≡ Some made) → IsRowUnsolvedAt fault rows r splits pivots u → IsUnsolvedAt fault cuts rows p splits pivots v
  left_at u v (NoFit wanted site) e made h = left_by u v e made h
  left_at u v (PivotLimit wanted bases board) e made h = left_by u v e made h
  left_at u v (SplitLimit wanted board) e made h = left_by u v e made h
  left_at u v NoMemory e made h = nothing u.shown v.shown h made

  left_in : (u v : Unsolved) → v.fault ≡ u.fault → IfSome v.shown (λ made. option_map f u.shown ≡ Some made) → IsRowUnsolved rows r splits pivots u → IsUnsolved cuts rows p splits pivots v
  left_in u v e made h = subst (λ (fault : VerdictFault). IsUnsolvedAt fault cuts rows p splits pivots v) (sym e) (left_at u v u.fault e made h)

-- ---- a search that is left

as_shown : (o : Option Partial) → IfSome o (λ made. option_map (λ (c : Partial). c) o ≡ Some made)
as_shown None = tt
as_shown (Some c) = refl

-- the problem itself is searched
pub left_itself : {A : Type 0} (cuts rows : Bool) (p : Problem) (splits pivots : ℕ) (r : Result A Unsolved) → IfErr r (IsRowUnsolved rows p splits pivots) → IfErr r (IsUnsolved cuts rows p splits pivots)
left_itself cuts rows p splits pivots (Ok c) h = tt
left_itself cuts rows p splits pivots (Err u) h = left_in cuts rows p p splits pivots (by_itself cuts p) (λ c. c) (uncut_itself cuts p) u u refl (as_shown u.shown) h

-- the problem with cuts is searched
pub left_behind_cuts : (asked rows : Bool) (p r : Problem) (cuts : List Derived) (splits pivots : ℕ) (u v : Unsolved) → asked ≡ true → AreRootCuts p cuts → IsCutProblem p cuts r
    → v.fault ≡ u.fault → IfSome v.shown (λ made. option_map (restored_partial p cuts) u.shown ≡ Some made) → IsRowUnsolved rows r splits pivots u → IsUnsolved asked rows p splits pivots v
left_behind_cuts asked rows p r cuts splits pivots u v e are is same made h =
    left_in asked rows p r splits pivots (behind_cuts asked p r cuts e are is) (restored_partial p cuts) (uncut_behind asked p r cuts e are is) u v same made h

-- a certificate of the problem with cuts has as many columns as the problem
pub same_size : (p r : Problem) (cuts : List Derived) (c : Certificate) → IsCutProblem p cuts r → Proves r c → c.columns ≡ length p.columns
same_size p r cuts c is proves = own_size r c proves ∙ ap length is.columns
