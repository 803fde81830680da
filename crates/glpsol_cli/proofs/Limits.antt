-- Where the words set no limit of steps, no answer is that this limit was met.
use Rattle.std.proofs.Common.{◌≡◌, ℕ, List, Some, ap, sym, ◌∙◌}
use Rattle.std.proofs.lemmas.Option.{same_Some}
use Rattle.command_line.specs.Meaning.{settings_of}
use Rattle.command_line.specs.declared.settings.Settings.{Settings}
use Rattle.glpsol_cli.specs.Asked.{ToldNames}
use Rattle.glpsol_cli.specs.Cause.{Cause, IsNotByPivots}
use Rattle.glpsol_cli.specs.declared.answer.Answer.{Answer}
use Rattle.glpsol_cli.specs.declared.answer.Answer.TheVariants.{Optimal, Ranged, Infeasible, Irreducible, Unbounded, Translated, Accepted, Usage, Missing, OpenFault, ReadFault, WriteFault, TooLong, BadText, FaultBehindSolve, Unranged, BadCertificate, NotLinear, Overflow, Undecided, Refused, NoMemory}
use Rattle.glpsol_cli.specs.declared.answer.Limit.TheVariants.{Pivots, Splits, SubsetPivots}

pub unlimited : (words : List (List ℕ)) (told : ToldNames) (s : Settings) → settings_of words ≡ Some s → s.pivot_limit ≡ 0 → (files_rose out_rose : Type 0) (answer : Answer)
    → Cause words told files_rose out_rose answer → IsNotByPivots answer
unlimited words told s asks none files_rose out_rose (Optimal c) h = tt
unlimited words told s asks none files_rose out_rose (Ranged c r) h = tt
unlimited words told s asks none files_rose out_rose (Infeasible c) h = tt
unlimited words told s asks none files_rose out_rose (Irreducible c w) h = tt
unlimited words told s asks none files_rose out_rose (Unbounded c) h = tt
unlimited words told s asks none files_rose out_rose Translated h = tt
unlimited words told s asks none files_rose out_rose (Accepted c) h = tt
unlimited words told s asks none files_rose out_rose Usage h = tt
unlimited words told s asks none files_rose out_rose (Missing name reached) h = tt
unlimited words told s asks none files_rose out_rose (OpenFault name reached) h = tt
unlimited words told s asks none files_rose out_rose (ReadFault name reached) h = tt
unlimited words told s asks none files_rose out_rose (WriteFault target reached) h = tt
unlimited words told s asks none files_rose out_rose (TooLong name reached) h = tt
unlimited words told s asks none files_rose out_rose (BadText fault) h = tt
unlimited words told s asks none files_rose out_rose (FaultBehindSolve fault c) h = tt
unlimited words told s asks none files_rose out_rose (Unranged fault c) h = h.has.unlimited (ap (λ settings. settings.pivot_limit) (same_Some h.settings s (sym h.asks ∙ asks)) ∙ none)
unlimited words told s asks none files_rose out_rose (BadCertificate fault) h = tt
unlimited words told s asks none files_rose out_rose NotLinear h = tt
unlimited words told s asks none files_rose out_rose (Overflow at fault) h = tt
unlimited words told s asks none files_rose out_rose (Undecided (Pivots wanted bases board left)) h =
    h.has.search.holds.run.limited.some (ap (λ settings. settings.pivot_limit) (same_Some h.settings s (sym h.asks ∙ asks)) ∙ none)
unlimited words told s asks none files_rose out_rose (Undecided (SubsetPivots members bases)) h =
    h.has.holds.limited.some (ap (λ settings. settings.pivot_limit) (same_Some h.settings s (sym h.asks ∙ asks)) ∙ none)
unlimited words told s asks none files_rose out_rose (Undecided (Splits wanted board left)) h = tt
unlimited words told s asks none files_rose out_rose (Refused part) h = tt
unlimited words told s asks none files_rose out_rose (NoMemory reached) h = tt
