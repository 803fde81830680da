-- How a run ends at a best point, with its ranges.
use Rattle.std.proofs.Common.{◌≡◌, ◌∙◌, ◌≤◌, ℕ, is_some, true, false, List, [], Option, Some, None, sym, ap, subst}
use Rattle.milp.specs.Problem.{Problem}
use Rattle.verdicts.specs.Certificate.{Certificate}
use Rattle.gmpl_generate.specs.declared.fault.ModelFault.{ModelFault}
use Rattle.exact_ranges.specs.Ranges.{AllRanges}
use Rattle.exact_ranges.specs.Text.{ranges_text}
use Rattle.outside.specs.Causes.{Rose}
use Rattle.outside.specs.Told.{AppendsPrefix}
use Rattle.command_line.specs.declared.settings.Settings.{Settings}
use Rattle.command_line.specs.declared.settings.Task.{Task}
use Rattle.glpsol_cli.specs.Asked.{ToldNames, ranges_file, wants_ranges}
use Rattle.glpsol_cli.specs.Pieces.{Outside, Whole}
use Rattle.glpsol_cli.specs.Meaning.{saved_in}
use Rattle.glpsol_cli.specs.Cause.{AreRanges, reached_of}
use Rattle.glpsol_cli.specs.Written.{ThenLine, extent_of, line_of}
use Rattle.glpsol_cli.specs.Stages.{IsEndAtBest, without_ranges, ranged, unranged, ranges_unwritten, IsEndBehind, at_best, at_fault, unwritten, IsEndSaving, saved, unsaved, range_pieces}
use Rattle.glpsol_cli.specs.declared.answer.Answer.{Answer}
use Rattle.glpsol_cli.specs.declared.answer.Reached.TheVariants.{Ranges}
use Rattle.glpsol_cli.proofs.Carried.{reached_unwritten}
use Rattle.glpsol_cli.proofs.Writing.{failed_within, line_alone}

-- ---- over a longer time

module _ (a b c d : ℕ) (before : a ≤ b) (after : c ≤ d) (e f g h : ℕ) (before' : e ≤ f) (after' : g ≤ h) where
  at_best_within : (p : Problem) (s : Settings) (k : Certificate) (answer : Answer) → IsEndAtBest p s k (Rose b c) (Rose f g) answer → IsEndAtBest p s k (Rose a d) (Rose e h) answer
  at_best_within p s k answer (without_ranges plain is) = without_ranges plain is
  at_best_within p s k answer (ranged r wanted are is) = ranged r wanted are is
  at_best_within p s k answer (unranged fault wanted fails unlimited is) = unranged fault wanted fails unlimited is
  at_best_within p s k answer (ranges_unwritten r fault wanted are failed is) = ranges_unwritten r fault wanted are (failed_within a b c d before after e f g h before' after' fault failed) is

  pub behind_within : (p : Problem) (s : Settings) (fault : Option ModelFault) (k : Certificate) (answer : Answer) → IsEndBehind p s fault k (Rose b c) (Rose f g) answer → IsEndBehind p s fault k (Rose a d) (Rose e h) answer
  behind_within p s fault k answer (at_best none is) = at_best none (at_best_within p s k answer is)
  behind_within p s fault k answer (at_fault x there is) = at_fault x there is
  behind_within p s fault k answer (unwritten x failed is) = unwritten x (failed_within a b c d before after e f g h before' after' x failed) is

-- ---- ranges that are found

pub ranges_wanted : (task : Task) (file : List ℕ) → ranges_file task ≡ Some file → wants_ranges task ≡ true
ranges_wanted task file is = ap is_some is

pub no_ranges_wanted : (task : Task) → ranges_file task ≡ None → wants_ranges task ≡ false
no_ranges_wanted task is = ap is_some is

module _ (p : Problem) (s : Settings) (c : Certificate) (r : AllRanges) (files_rose out_rose : Type 0) (answer : Answer) where
  pub at_best_saving : wants_ranges s.task ≡ true → AreRanges p c r → IsEndSaving c r files_rose out_rose answer → IsEndAtBest p s c files_rose out_rose answer
  at_best_saving wanted are (saved is) = ranged r wanted are is
  at_best_saving wanted are (unsaved fault failed is) = ranges_unwritten r fault wanted are failed is

  saving_reached : IsEndSaving c r files_rose out_rose answer → reached_of answer ≡ Ranges c r
  saving_reached (saved is) = ap reached_of is
  saving_reached (unsaved fault failed is) = ap reached_of is ∙ reached_unwritten (Ranges c r) fault

  pub saving_written : (file : List ℕ) → ranges_file s.task ≡ Some file → IsEndSaving c r files_rose out_rose answer → (old new : Outside) → ThenLine (extent_of answer) (line_of answer) old new (saved_in (Some file) (ranges_text r))
      → ThenLine (extent_of answer) (line_of answer) old new (range_pieces s.task (reached_of answer))
  saving_written file is end old new h =
      let same : range_pieces s.task (reached_of answer) ≡ saved_in (Some file) (ranges_text r) = ap (range_pieces s.task) (saving_reached end) ∙ ap (λ f. saved_in f (ranges_text r)) is in
      subst (ThenLine (extent_of answer) (line_of answer) old new) (sym same) h

-- ---- a line alone

pub told_alone : (task : Task) (made answer : Answer) → answer ≡ made → extent_of made ≡ Whole → range_pieces task (reached_of made) ≡ [] → (taken taken' : Option (List ℕ)) (told : ToldNames) → AppendsPrefix taken taken' (line_of made)
    → ThenLine (extent_of answer) (line_of answer) (record { taken = taken; told = told }) (record { taken = taken'; told = told }) (range_pieces task (reached_of answer))
told_alone task made answer is whole none taken taken' told line =
    let old : Outside = record { taken = taken; told = told } in
    let new : Outside = record { taken = taken'; told = told } in
    subst (λ x. ThenLine (extent_of x) (line_of x) old new (range_pieces task (reached_of x))) (sym is)
    (subst (λ ps. ThenLine (extent_of made) (line_of made) old new ps) (sym none) (subst (λ e. ThenLine e (line_of made) old new []) (sym whole) (line_alone (line_of made) taken taken' told line)))
