-- Where a subset is asked for, no answer is that no point is feasible without one; where ranges are, none that a point is best without.
use Rattle.std.proofs.Common.{◌≡◌, ◌∙◌, ℕ, true, false, List, None, Some, ap, sym}
use Rattle.std.proofs.lemmas.Option.{same_Some}
use Rattle.std.specs.Option.{option_map}
use Rattle.milp.specs.Problem.{Problem}
use Rattle.verdicts.specs.Certificate.{Certificate}
use Rattle.verdicts.specs.Certificate as kind
use Rattle.command_line.specs.Meaning.{settings_of}
use Rattle.command_line.specs.declared.settings.Settings.{Settings}
use Rattle.command_line.specs.declared.settings.Task.{Task}
use Rattle.glpsol_cli.specs.Asked.{ToldNames, wants_ranges, wants_subset}
use Rattle.glpsol_cli.specs.Pieces.{Piece, Outside}
use Rattle.glpsol_cli.specs.Meaning.{found_pieces, lacks_subset, solved_pieces, whole_report}
use Rattle.glpsol_cli.specs.Cause.{Cause, IsNotPlain, IsNotWithoutRanges}
use Rattle.glpsol_cli.specs.Written.{Written}
use Rattle.glpsol_cli.specs.declared.answer.Answer.{Answer}
use Rattle.glpsol_cli.specs.declared.answer.Answer.TheVariants.{Optimal, Ranged, Infeasible, Irreducible, Unbounded, Translated, Accepted, Usage, Missing, OpenFault, ReadFault, WriteFault, TooLong, BadText, FaultBehindSolve, Unranged, BadCertificate, NotLinear, Overflow, Undecided, Refused, NoMemory}
use Rattle.glpsol_cli.specs.declared.answer.Reached.TheVariants.{Verdict}

-- without a subset that is wanted there is no report
no_report : (task : Task) (p : Problem) (c : Certificate) → wants_subset task ≡ true → c.verdict ≡ kind.Infeasible → (found : List Piece) → found_pieces task p (Verdict c) ≡ Some found → ⊥
no_report task p c wants is found are =
    let lacks : lacks_subset (wants_subset task) c.verdict ≡ true = ap (lacks_subset (wants_subset task)) is ∙ wants in
    none_some found (sym (ap (λ b. option_map (solved_pieces task p c) (whole_report b task p c)) lacks) ∙ are)
  where
    none_some : (ps : List Piece) → None ≡ Some ps → ⊥
    none_some ps e = cc

pub not_plain : (words : List (List ℕ)) (old new : Outside) (s : Settings) → settings_of words ≡ Some s → wants_subset s.task ≡ true → (files_rose out_rose : Type 0) (answer : Answer)
    → Cause words old.told files_rose out_rose answer → Written words old new answer → IsNotPlain answer
not_plain words old new s asks wants files_rose out_rose (Infeasible c) h written =
    let wanted : wants_subset written.settings.task ≡ true = ap (λ settings. wants_subset settings.task) (same_Some written.settings s (sym written.asks ∙ asks)) ∙ wants in
    no_report written.settings.task written.has.problem c wanted h.0 written.has.found written.has.are
not_plain words old new s asks wants files_rose out_rose (Optimal c) h written = tt
not_plain words old new s asks wants files_rose out_rose (Ranged c r) h written = tt
not_plain words old new s asks wants files_rose out_rose (Irreducible c w) h written = tt
not_plain words old new s asks wants files_rose out_rose (Unbounded c) h written = tt
not_plain words old new s asks wants files_rose out_rose Translated h written = tt
not_plain words old new s asks wants files_rose out_rose (Accepted c) h written = tt
not_plain words old new s asks wants files_rose out_rose Usage h written = tt
not_plain words old new s asks wants files_rose out_rose (Missing name reached) h written = tt
not_plain words old new s asks wants files_rose out_rose (OpenFault name reached) h written = tt
not_plain words old new s asks wants files_rose out_rose (ReadFault name reached) h written = tt
not_plain words old new s asks wants files_rose out_rose (WriteFault target reached) h written = tt
not_plain words old new s asks wants files_rose out_rose (TooLong name reached) h written = tt
not_plain words old new s asks wants files_rose out_rose (BadText fault) h written = tt
not_plain words old new s asks wants files_rose out_rose (FaultBehindSolve fault c) h written = tt
not_plain words old new s asks wants files_rose out_rose (Unranged fault c) h written = tt
not_plain words old new s asks wants files_rose out_rose (BadCertificate fault) h written = tt
not_plain words old new s asks wants files_rose out_rose NotLinear h written = tt
not_plain words old new s asks wants files_rose out_rose (Overflow at fault) h written = tt
not_plain words old new s asks wants files_rose out_rose (Undecided limit) h written = tt
not_plain words old new s asks wants files_rose out_rose (Refused part) h written = tt
not_plain words old new s asks wants files_rose out_rose (NoMemory reached) h written = tt

-- ---- ranges

pub not_without : (words : List (List ℕ)) (told : ToldNames) (s : Settings) → settings_of words ≡ Some s → wants_ranges s.task ≡ true → (files_rose out_rose : Type 0) (answer : Answer)
    → Cause words told files_rose out_rose answer → IsNotWithoutRanges answer
not_without words told s asks wants files_rose out_rose (Optimal c) h =
    let same : h.1.settings ≡ s = same_Some h.1.settings s (sym h.1.asks ∙ asks) in
    no_truth (sym h.1.has.plain ∙ ap (λ settings. wants_ranges settings.task) same ∙ wants)
  where
    no_truth : false ≡ true → ⊥
    no_truth e = cc
not_without words told s asks wants files_rose out_rose (Infeasible c) h = tt
not_without words told s asks wants files_rose out_rose (Ranged c r) h = tt
not_without words told s asks wants files_rose out_rose (Irreducible c w) h = tt
not_without words told s asks wants files_rose out_rose (Unbounded c) h = tt
not_without words told s asks wants files_rose out_rose Translated h = tt
not_without words told s asks wants files_rose out_rose (Accepted c) h = tt
not_without words told s asks wants files_rose out_rose Usage h = tt
not_without words told s asks wants files_rose out_rose (Missing name reached) h = tt
not_without words told s asks wants files_rose out_rose (OpenFault name reached) h = tt
not_without words told s asks wants files_rose out_rose (ReadFault name reached) h = tt
not_without words told s asks wants files_rose out_rose (WriteFault target reached) h = tt
not_without words told s asks wants files_rose out_rose (TooLong name reached) h = tt
not_without words told s asks wants files_rose out_rose (BadText fault) h = tt
not_without words told s asks wants files_rose out_rose (FaultBehindSolve fault c) h = tt
not_without words told s asks wants files_rose out_rose (Unranged fault c) h = tt
not_without words told s asks wants files_rose out_rose (BadCertificate fault) h = tt
not_without words told s asks wants files_rose out_rose NotLinear h = tt
not_without words told s asks wants files_rose out_rose (Overflow at fault) h = tt
not_without words told s asks wants files_rose out_rose (Undecided limit) h = tt
not_without words told s asks wants files_rose out_rose (Refused part) h = tt
not_without words told s asks wants files_rose out_rose (NoMemory reached) h = tt
