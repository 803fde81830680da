-- Where a problem's search is not hindered, nothing stands in the way of the verdict of a text that declares it.
use Rattle.std.proofs.Common.{◌≡◌, ◌∙◌, ℕ, ◌<◌, ◌≤◌, true, false, List, [], ◌∷◌, length, Some, None, Ok, refl, sym, ap, subst, arith}
use Rattle.std.specs.Prelude.{codes}
use Rattle.rational.specs.Rational.{Rational}
use Rattle.milp.specs.Problem.{Problem}
use Rattle.verdicts.specs.Certificate.{Certificate}
use Rattle.verdicts.specs.Certificate as kind
use Rattle.verdicts.specs.Proves.{Proves}
use Rattle.fraction.specs.declared.frac.NoFit.{NoFit}
use Rattle.dual_values.specs.Duals.{duals_of}
use Rattle.search_tree.specs.Board.{Board}
use Rattle.search_tree.specs.Kept.{IsKept}
use Rattle.search_tree.specs.Steps.{IsReplay}
use Rattle.search_tree.specs.Tree.{made}
use Rattle.branch_search.specs.Plain.{NoneInteger}
use Rattle.branch_search.specs.Faults.{IsStuckAt, IsOutOfPivots, IsOutOfSplits}
use Rattle.branch_search.specs.WholeFaults.{IsWanted, searched}
use Rattle.branch_search.specs.declared.whole_fault.Wanted.{Wanted}
use Rattle.worked_problems.specs.Unhindered.{IsUnhindered, AreUnhindered}
use Rattle.verdicts.specs.Certificate.{Certificate}
use Rattle.exact_ranges.specs.declared.fault.RangeFault.{RangeFault}
use Rattle.mps_reader.specs.FreeMps.{declared}
use Rattle.outside.specs.Told.{Has}
use Rattle.command_line.proofs.Laws.{plain_settings, plain_words}
use Rattle.command_line.specs.declared.settings.Settings.{Settings}
use Rattle.glpsol_cli.specs.Asked.{ToldNames, names_checked, wants_linear, wants_ranges, wants_subset}
use Rattle.glpsol_cli.specs.Meaning.{Meaning, end_of, IsAsked, meaning_of}
use Rattle.glpsol_cli.specs.Cause.{OfSearch, IsOverflow, IsUndecided, LacksRanges}
use Rattle.glpsol_cli.specs.Complete.{IsComplete, IsWantOfMemory}
use Rattle.glpsol_cli.specs.WorkedExample.{example_words}
use Rattle.glpsol_cli.proofs.Reports.{declared_same}
use Rattle.glpsol_cli.specs.declared.answer.Limit.{Limit}
use Rattle.glpsol_cli.specs.declared.answer.Limit.TheVariants.{Pivots, Splits, SubsetPivots}
use Rattle.glpsol_cli.specs.declared.answer.OverflowSite.{OverflowSite}
use Rattle.glpsol_cli.specs.declared.answer.OverflowSite.TheVariants.{AtNode, InPart, InSubset}

module _ (text : List ℕ) (p : Problem) (count : ℕ) (declares : declared text ≡ Ok p) (free : AreUnhindered p count) (few : count < 10000) (replays : (b : Board) → IsReplay b → IsKept b) where
  asked : IsAsked plain_settings (text ∷ []) p
  asked = ap (λ r. Some (end_of plain_settings r)) declares

  -- what holds of a problem that is searched holds of what is searched of this one
  of_this : (wanted : Wanted) (P : Problem → Settings → Type 0) → OfSearch wanted P plain_settings (text ∷ []) → IsWanted p wanted × P (searched p wanted) plain_settings
  of_this wanted P h = subst (λ q. IsWanted q wanted × P (searched q wanted) plain_settings) (h.is_searched.is_searched ∙ h.is_searched.may_have_cuts ∙ declared_same h.problem p (sym h.asked ∙ asked)) (h.is_wanted, h.holds)

  -- no subset is wanted
  none_wanted : wants_subset plain_settings.task ≡ true → ⊥
  none_wanted e = no_truth e
    where
      no_truth : false ≡ true → ⊥
      no_truth e = cc

  -- and no ranges
  no_ranges : wants_ranges plain_settings.task ≡ true → ⊥
  no_ranges e = no_truth e
    where
      no_truth : false ≡ true → ⊥
      no_truth e = cc

  linear : wants_linear plain_settings.task ≡ true → NoneInteger p.columns
  linear e = absurd (none_wanted e)

  ranged : (fault : RangeFault) (c : Certificate) → LacksRanges fault c plain_settings (text ∷ []) → IsWantOfMemory fault
  ranged fault c h = absurd (no_ranges h.wanted)

  fits : (at : OverflowSite) (e : NoFit) → ¬ (IsOverflow at e plain_settings (text ∷ []))
  fits (AtNode wanted node) e h =
      let stuck = of_this wanted (λ p settings. IsStuckAt p [] settings.split_limit (record { node = node; fault = e })) h in
      let search = free wanted stuck.0 in
      search.fits 10000 (record { node = node; fault = e }) stuck.1
  fits (InPart part) e h = solves_only h.name h.checks
    where
      solves_only : (name : List ℕ) → names_checked plain_settings.task ≡ name ∷ [] → ⊥
      solves_only name e = cc
  fits (InSubset members) e h = none_wanted h.wanted

  never_all_made : (q : Problem) → IsUnhindered q count → (board : Board) → ¬ (IsOutOfSplits q [] 10000 100000 board)
  never_all_made q search board h =
      let least : made board.tree ≤ count = search.few_splits board (replays board h.stopped.replay) h.stopped.problem h.stopped.cuts in
      let all : made board.tree ≡ 10000 = h.all_made in
      absurd (omega (arith, few, least, all))

  ends : (limit : Limit) → ¬ (IsUndecided limit plain_settings (text ∷ []))
  ends (Pivots wanted bases board left) h =
      let long = of_this wanted (λ p settings. IsOutOfPivots p [] settings.split_limit settings.pivot_limit bases board) h.search in
      let search = free wanted long.0 in
      search.ends 10000 100000 bases long.1.run
  ends (SubsetPivots members bases) h = none_wanted h.wanted
  ends (Splits wanted board left) h =
      let out = of_this wanted (λ p settings. IsOutOfSplits p [] settings.split_limit settings.pivot_limit board) h.search in
      never_all_made (searched p wanted) (free wanted out.0) board out.1

  -- nothing stands behind `solve`
  behind : (meaning : Meaning) → meaning_of plain_settings (text ∷ []) ≡ Some meaning → (c : Certificate) → Proves p c → c.verdict ≡ kind.Optimal
      → (x : List Rational) → c.point ≡ Some x → (meaning.behind x (duals_of p c)).fault ≡ None
  behind meaning means c proves best x at = subst (λ (m : Meaning). (m.behind x (duals_of p c)).fault ≡ None) (some_same means) refl
    where
      some_same : {a b : Meaning} → Some a ≡ Some b → a ≡ b
      some_same e = cc

  pub is_complete : length text ≤ 67108864 → (told : ToldNames) (files_rose out_rose : Type 0) → Has (told (codes "model")) text → (files_rose → ⊥) → (out_rose → ⊥) → IsComplete example_words told files_rose out_rose
  is_complete short told files_rose out_rose has files_held out_held = record {
    settings = plain_settings;
    texts = text ∷ [];
    tables = [];
    problem = p;
    asks = plain_words;
    solves = tt;
    has = ((has, short), tt);
    tables_told = tt;
    asked = asked;
    linear = linear;
    fits = fits;
    ends = ends;
    ranged = ranged;
    behind = behind;
    files_held = files_held;
    out_held = out_held;
  }
