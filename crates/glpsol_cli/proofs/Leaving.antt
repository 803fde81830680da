-- What is left of a search that came to a limit.
use Rattle.std.proofs.Common.{◌≡◌, List, ℕ, Option, Some, refl, sym, subst, inl, inr}
use Rattle.std.specs.Prelude.{IfSome, Ok, Err, Result}
use Rattle.milp.specs.Problem.{Problem}
use Rattle.search_tree.specs.Board.{Board}
use Rattle.partial_certificate.specs.Partial.{Partial}
use Rattle.partial_certificate.specs.Shown.{Passes, Shows}
use Rattle.partial_certificate.specs.Text.{partial_text}
use Rattle.branch_search.specs.declared.whole_fault.Wanted.{Wanted}
use Rattle.branch_search.specs.declared.whole_fault.VerdictFault.{VerdictFault}
use Rattle.branch_search.specs.declared.whole_fault.VerdictFault.TheVariants.{NoFit as SearchNoFit, PivotLimit, SplitLimit, NoMemory as SearchNoMemory}
use Rattle.command_line.specs.declared.settings.Settings.{Settings}
use Rattle.glpsol_cli.specs.Cause.{AtLimit, IsLeft, IsShown, IsTested, IsUndecided, reached_at, reached_left, reached_of}
use Rattle.glpsol_cli.specs.Pieces.{AllWritten, Outside, SomeWritten, WrittenTo}
use Rattle.stopped_search.specs.Stopped.{shown_for}
use Rattle.stopped_search.specs.declared.fault.Unsolved.{Unsolved}
use Rattle.cut_search.specs.Searched.{IsUnsolved as IsSearchUnsolved, shown_of_search}
use Rattle.glpsol_cli.specs.Asked.{Solves, certificate_file, splits_rows, uses_cuts}
use Rattle.glpsol_cli.specs.Meaning.{IsAsked, saved_in}
use Rattle.glpsol_cli.specs.Stages.{EndsWriting, IsLeaving, IsUnsolvedAnswer, OfUnsolved, saved_pieces_of}
use Rattle.glpsol_cli.specs.Written.{extent_left}
use Rattle.glpsol_cli.specs.Together.{CauseIn, ReachedIn, ShownBy}
use Rattle.glpsol_cli.specs.declared.answer.Answer.{Answer}
use Rattle.glpsol_cli.specs.declared.answer.Answer.TheVariants.{NoMemory, Overflow, Undecided}
use Rattle.glpsol_cli.specs.declared.answer.Leftover.{Leftover}
use Rattle.glpsol_cli.specs.declared.answer.Leftover.TheVariants.{Unasked, Unmade, Saved, Unsaved}
use Rattle.glpsol_cli.specs.declared.answer.Limit.{Limit}
use Rattle.glpsol_cli.specs.declared.answer.Limit.TheVariants.{Pivots, Splits, SubsetPivots}
use Rattle.glpsol_cli.specs.declared.answer.Reached.{Reached}
use Rattle.glpsol_cli.specs.declared.answer.Reached.TheVariants.{Nothing, Executed, Size, Shown, Acceptance, Verdict, Subset, Ranges}
use Rattle.glpsol_cli.specs.declared.answer.Target.TheVariants.{Out, File}
use Rattle.glpsol_cli.specs.declared.publish.PublishFault.{PublishFault}
use Rattle.glpsol_cli.specs.declared.publish.PublishFault.TheVariants.{Write, CutOutput, NoMemory as PublishNoMemory}

-- ---- what is reached by a search that stops

-- nothing but the execution, or what the search has shown
abbrev pub IsOfLimit : Reached → Type 0
IsOfLimit Nothing = ⊥
IsOfLimit Executed = Unit {0}
IsOfLimit Size = ⊥
IsOfLimit (Shown c) = Unit {0}
IsOfLimit (Acceptance c) = ⊥
IsOfLimit (Verdict c) = ⊥
IsOfLimit (Subset c w) = ⊥
IsOfLimit (Ranges c r) = ⊥

of_left : (left : Leftover) → IsOfLimit (reached_left left)
of_left Unasked = tt
of_left Unmade = tt
of_left (Saved c) = tt
of_left (Unsaved c) = tt

pub of_limit : (limit : Limit) → IsOfLimit (reached_at limit)
of_limit (Pivots wanted bases board left) = of_left left
of_limit (Splits wanted board left) = of_left left
of_limit (SubsetPivots members bases) = tt

-- ---- what it shows

-- a partial certificate of which all tests hold shows what it says
abbrev pub AreShowing : Type 0
AreShowing = (p : Problem) (c : Partial) → Passes p c → Shows p c

pub tested_shown : AreShowing → (c : Partial) (s : Settings) (texts : List (List ℕ)) → IsTested c s texts → IsShown c s texts
tested_shown showing c s texts h = record { problem = h.problem; asked = h.asked; shows = showing h.problem c h.passes }

pub shown_by : AreShowing → (r : Reached) (s : Settings) (texts : List (List ℕ)) → ((c : Partial) → r ≡ Shown c → IsTested c s texts) → ShownBy r s texts
shown_by showing Nothing s texts f = tt
shown_by showing Executed s texts f = tt
shown_by showing Size s texts f = tt
shown_by showing (Shown c) s texts f = tested_shown showing c s texts (f c refl)
shown_by showing (Acceptance c) s texts f = tt
shown_by showing (Verdict c) s texts f = tt
shown_by showing (Subset c w) s texts f = tt
shown_by showing (Ranges c r) s texts f = tt

same_shown : (c d : Partial) → Shown c ≡ Shown d → c ≡ d
same_shown c d e = cc

same_some : (c d : Partial) → Some c ≡ Some d → c ≡ d
same_some c d e = cc

not_executed : (c : Partial) → Executed ≡ Shown c → ⊥
not_executed c e = cc

-- all tests hold of what is left
left_passes : (file : Option (List ℕ)) (p : Problem) (shown : Partial) (left : Leftover) (c : Partial) → reached_left left ≡ Shown c → IsLeft file p shown left → Passes p c
left_passes file p shown Unasked c e h = absurd (not_executed c e)
left_passes file p shown Unmade c e h = absurd (not_executed c e)
left_passes file p shown (Saved d) c e h = subst (Passes p) (same_shown d c e) h.2
left_passes file p shown (Unsaved d) c e h = subst (Passes p) (same_shown d c e) h.2

left_tested : (wanted : Wanted) (board : Board) (left : Leftover) (P : Problem → Settings → Type 0) (c : Partial) (s : Settings) (texts : List (List ℕ)) → reached_left left ≡ Shown c → AtLimit wanted board left P s texts → IsTested c s texts
left_tested wanted board left P c s texts e h = record {
  problem = h.search.problem;
  asked = h.search.asked;
  solves = h.search.solves;
  passes = left_passes _ h.search.problem _ left c e h.left;
}

pub limit_tested : (limit : Limit) (c : Partial) (s : Settings) (texts : List (List ℕ)) → reached_at limit ≡ Shown c → IsUndecided limit s texts → IsTested c s texts
limit_tested (Pivots wanted bases board left) c s texts e h = left_tested wanted board left _ c s texts e h
limit_tested (Splits wanted board left) c s texts e h = left_tested wanted board left _ c s texts e h
limit_tested (SubsetPivots members bases) c s texts e h = absurd (not_executed c e)

-- ---- what is written of it

not_out : (name : List ℕ) → File name ≡ Out → ⊥
not_out name e = cc

-- where the file is not written whole, some of it is
some_saved : (fault : PublishFault) (name text : List ℕ) (old new : Outside) → EndsWriting {T = Unit {0}} (saved_in (Some name) text) old new (Err fault) → SomeWritten (saved_in (Some name) text) old new
some_saved (Write target) name text old new h = elim h [
  | inl part ↦ inl part.1
  | inr more ↦ absurd more.2
]
some_saved CutOutput name text old new h = elim h [
  | inl part ↦ absurd (not_out name part.0)
  | inr more ↦ absurd more.2
]
some_saved PublishNoMemory name text old new h = h

module _ (file : Option (List ℕ)) (name : List ℕ) (c : Partial) (r : Result (Unit {0}) PublishFault) (left : Leftover) (old new : Outside) (named : file ≡ Some name) (ends : EndsWriting (saved_in (Some name) (partial_text c)) old new r) where
  pub saved_written : (u : Unit {0}) → r ≡ Ok u → left ≡ Saved c → WrittenTo (extent_left left) (saved_pieces_of file (reached_left left)) old new
  saved_written u is so =
      subst (λ l. WrittenTo (extent_left l) (saved_pieces_of file (reached_left l)) old new) (sym so)
      (subst (λ f. AllWritten (saved_in f (partial_text c)) old new) (sym named) (subst (EndsWriting (saved_in (Some name) (partial_text c)) old new) is ends))

  pub unsaved_written : (fault : PublishFault) → r ≡ Err fault → left ≡ Unsaved c → WrittenTo (extent_left left) (saved_pieces_of file (reached_left left)) old new
  unsaved_written fault is so =
      subst (λ l. WrittenTo (extent_left l) (saved_pieces_of file (reached_left l)) old new) (sym so)
      (subst (λ f. SomeWritten (saved_in f (partial_text c)) old new) (sym named)
      (some_saved fault name (partial_text c) old new (subst (EndsWriting (saved_in (Some name) (partial_text c)) old new) is ends)))

-- ---- the answer

pub of_unsolved : (file : Option (List ℕ)) (fault : VerdictFault) (shown : Option Partial) (answer : Answer) → IsUnsolvedAnswer file fault shown answer → IsOfLimit (reached_of answer)
of_unsolved file (SearchNoFit wanted site) shown answer h = subst (λ a. IsOfLimit (reached_of a)) (sym h) tt
of_unsolved file (PivotLimit wanted bases board) shown answer h = subst (λ a. IsOfLimit (reached_of a)) (sym h.2) (of_left h.0)
of_unsolved file (SplitLimit wanted board) shown answer h = subst (λ a. IsOfLimit (reached_of a)) (sym h.2) (of_left h.0)
of_unsolved file SearchNoMemory shown answer h = subst (λ a. IsOfLimit (reached_of a)) (sym h) tt

-- ---- the cause of the answer

module _ (s : Settings) (texts : List (List ℕ)) where
  -- what is left is what the board has shown
  is_left : (file : Option (List ℕ)) (p : Problem) (board : Partial) (restore : Partial → Partial) (shown : Option Partial) (left : Leftover)
      → IfSome shown (λ c. Some (restore board) ≡ Some c) → IfSome shown (Passes p) → IsLeaving file shown left → IsLeft file p (restore board) left
  is_left file p board restore shown Unasked same passes h = h
  is_left file p board restore shown Unmade same passes h = h
  is_left file p board restore shown (Saved c) same passes h = (h.0, sym (same_some (restore board) c (subst (λ o. IfSome o (λ d. Some (restore board) ≡ Some d)) h.1 same)), subst (λ o. IfSome o (Passes p)) h.1 passes)
  is_left file p board restore shown (Unsaved c) same passes h = (h.0, sym (same_some (restore board) c (subst (λ o. IfSome o (λ d. Some (restore board) ≡ Some d)) h.1 same)), subst (λ o. IfSome o (Passes p)) h.1 passes)

  module _ (p : Problem) (asked : IsAsked s texts p) (solves : Solves s) (executed : ReachedIn s texts Executed) where
    -- by the fault of the search
    cause_of : (files_rose out_rose : Type 0) (fault : VerdictFault) (shown : Option Partial) (answer : Answer)
        → IsSearchUnsolved (uses_cuts s.task) (splits_rows s.task) p s.split_limit s.pivot_limit (record { fault = fault; shown = shown }) → IfSome shown (Passes p)
        → IsUnsolvedAnswer (certificate_file s.task) fault shown answer → CauseIn s texts files_rose out_rose answer
    cause_of files_rose out_rose (SearchNoFit wanted site) shown answer h passes is = subst (CauseIn s texts files_rose out_rose) (sym is)
        (record { problem = p; asked = asked; solves = solves; searches = h.problem; is_searched = h.is_searched; is_wanted = h.is_fault.0; holds = h.is_fault.1 })
    cause_of files_rose out_rose (PivotLimit wanted bases board) shown answer h passes is = subst (CauseIn s texts files_rose out_rose) (sym is.2)
        (record {
          search = record { problem = p; asked = asked; solves = solves; searches = h.problem; is_searched = h.is_searched; is_wanted = h.is_fault.0; holds = h.is_fault.1 };
          left = is_left (certificate_file s.task) p (shown_for wanted board) (shown_of_search (uses_cuts s.task) (splits_rows s.task) p h.problem h.is_searched) shown is.0 h.shown passes is.1;
        })
    cause_of files_rose out_rose (SplitLimit wanted board) shown answer h passes is = subst (CauseIn s texts files_rose out_rose) (sym is.2)
        (record {
          search = record { problem = p; asked = asked; solves = solves; searches = h.problem; is_searched = h.is_searched; is_wanted = h.is_fault.0; holds = h.is_fault.1 };
          left = is_left (certificate_file s.task) p (shown_for wanted board) (shown_of_search (uses_cuts s.task) (splits_rows s.task) p h.problem h.is_searched) shown is.0 h.shown passes is.1;
        })
    cause_of files_rose out_rose SearchNoMemory shown answer h passes is = subst (CauseIn s texts files_rose out_rose) (sym is) executed

  pub unsolved_is : (u : Unsolved) (answer : Answer) → OfUnsolved u s texts → ReachedIn s texts Executed → IsUnsolvedAnswer (certificate_file s.task) u.fault u.shown answer
      → (files_rose out_rose : Type 0) → CauseIn s texts files_rose out_rose answer
  unsolved_is u answer h executed is files_rose out_rose = cause_of h.problem h.asked h.solves executed files_rose out_rose u.fault u.shown answer h.unsolved h.passes is
