-- What is said of an answer by the settings and by the texts that were read: its cause, what it says of the problem, and what is written.
-- A run says all of this of the same texts, so also where a store tells nothing of its files.
use Rattle.std.specs.Prelude.{◌≡◌, ◌<◌, ℕ, List, [], length, Some}
use Rattle.verdicts.specs.Certificate as kind
use Rattle.outside.specs.Told.{Lacks, Has}
use Rattle.command_line.specs.declared.settings.Settings.{Settings}
use Rattle.glpsol_cli.specs.Asked.{ToldNames}
use Rattle.glpsol_cli.specs.Pieces.{Piece, Outside}
use Rattle.glpsol_cli.specs.Meaning.{IsRefused, HasDone, HasFound}
use Rattle.glpsol_cli.specs.Texts.{IsTableInTurn, OfTexts}
use Rattle.glpsol_cli.specs.Written.{ThenLine, extent_of, line_of}
use Rattle.glpsol_cli.specs.Cause.{EndsBehind, EndsWithoutRanges, IsBest, IsProved, IsShown, IsTested, IsTranslated, HasBestRanges, HasNoPoint, HasRanges, HasRay, HasSubset, IsIrreducibleSubset, LacksRanges, IsNotLinear, reached_at, reached_of, OfCertificate, IsAccepted, IsRefusedAt, IsNoCertificate, IsOverflow, IsUndecided, RoseAt}
use Rattle.glpsol_cli.specs.declared.answer.Answer.{Answer}
use Rattle.glpsol_cli.specs.declared.answer.Answer.TheVariants.{Optimal, Ranged, Infeasible, Irreducible, Unbounded, Translated, Accepted, Usage, Missing, OpenFault, ReadFault, WriteFault, TooLong, BadText as TextRefused, FaultBehindSolve, Unranged, BadCertificate, NotLinear, Overflow, Undecided, Refused, NoMemory}
use Rattle.glpsol_cli.specs.declared.answer.Reached.{Reached}
use Rattle.glpsol_cli.specs.declared.answer.Reached.TheVariants.{Nothing, Executed, Size as SizeReached, Shown as ShownReached, Acceptance as AcceptanceReached, Verdict as VerdictReached, Subset as SubsetReached, Ranges as RangesReached}

abbrev pub ReachedIn : Settings → List (List ℕ) → Reached → Type 0
ReachedIn s texts Nothing = Unit {0}
ReachedIn s texts Executed = HasDone (λ done. Unit {0}) s texts
ReachedIn s texts SizeReached = IsTranslated s texts
ReachedIn s texts (ShownReached c) = IsTested c s texts
ReachedIn s texts (AcceptanceReached c) = OfCertificate (IsAccepted c) s texts
ReachedIn s texts (VerdictReached c) = IsProved c s texts
ReachedIn s texts (SubsetReached c w) = HasSubset c w s texts
ReachedIn s texts (RangesReached c r) = HasRanges c r s texts

-- the cause of an answer that comes when they are read
abbrev pub CauseIn : Settings → List (List ℕ) → Type 0 → Type 0 → Answer → Type 0
CauseIn s texts files_rose out_rose (Optimal c) = (c.verdict ≡ kind.Optimal) × EndsWithoutRanges c s texts
CauseIn s texts files_rose out_rose (Ranged c r) = HasRanges c r s texts
CauseIn s texts files_rose out_rose (Infeasible c) = (c.verdict ≡ kind.Infeasible) × IsProved c s texts
CauseIn s texts files_rose out_rose (Irreducible c w) = HasSubset c w s texts
CauseIn s texts files_rose out_rose (Unbounded c) = (c.verdict ≡ kind.Unbounded) × IsProved c s texts
CauseIn s texts files_rose out_rose Translated = IsTranslated s texts
CauseIn s texts files_rose out_rose (Accepted c) = OfCertificate (IsAccepted c) s texts
CauseIn s texts files_rose out_rose Usage = ⊥
CauseIn s texts files_rose out_rose (Missing name reached) = ⊥
CauseIn s texts files_rose out_rose (OpenFault name reached) = ⊥
CauseIn s texts files_rose out_rose (ReadFault name reached) = ⊥
CauseIn s texts files_rose out_rose (WriteFault target reached) = ReachedIn s texts reached × RoseAt target files_rose out_rose
CauseIn s texts files_rose out_rose (TooLong name reached) = ⊥
CauseIn s texts files_rose out_rose (TextRefused fault) = IsRefused fault s texts
CauseIn s texts files_rose out_rose (FaultBehindSolve fault c) = (c.verdict ≡ kind.Optimal) × EndsBehind (Some fault) c s texts
CauseIn s texts files_rose out_rose (Unranged fault c) = LacksRanges fault c s texts
CauseIn s texts files_rose out_rose (BadCertificate fault) = OfCertificate (IsNoCertificate fault) s texts
CauseIn s texts files_rose out_rose NotLinear = IsNotLinear s texts
CauseIn s texts files_rose out_rose (Overflow at e) = IsOverflow at e s texts
CauseIn s texts files_rose out_rose (Undecided limit) = IsUndecided limit s texts
CauseIn s texts files_rose out_rose (Refused part) = OfCertificate (IsRefusedAt part) s texts
CauseIn s texts files_rose out_rose (NoMemory reached) = ReachedIn s texts reached

-- P holds of all that is to be written once this was reached
abbrev pub PiecesIn : Settings → List (List ℕ) → Reached → (List Piece → Type 0) → Type 0
PiecesIn s texts Nothing P = P []
PiecesIn s texts Executed P = HasDone P s texts
PiecesIn s texts SizeReached P = HasFound SizeReached P s texts
PiecesIn s texts (ShownReached c) P = HasFound (ShownReached c) P s texts
PiecesIn s texts (AcceptanceReached c) P = HasFound (AcceptanceReached c) P s texts
PiecesIn s texts (VerdictReached c) P = HasFound (VerdictReached c) P s texts
PiecesIn s texts (SubsetReached c w) P = HasFound (SubsetReached c w) P s texts
PiecesIn s texts (RangesReached c r) P = HasFound (RangesReached c r) P s texts

-- ---- all of one run

-- the cause of an answer once texts were executed, a table's file that is not read among them
abbrev pub CauseBy : ToldNames → Type 0 → Type 0 → Answer → Settings → List (List ℕ) → Type 0
CauseBy told files_rose out_rose (Missing name reached) s texts = IsTableInTurn told name (λ now. (text : List ℕ) → Has now text → ⊥) s texts
CauseBy told files_rose out_rose (OpenFault name reached) s texts = IsTableInTurn told name (λ now. files_rose) s texts
CauseBy told files_rose out_rose (ReadFault name reached) s texts = IsTableInTurn told name (λ now. (Lacks now → ⊥) × files_rose) s texts
CauseBy told files_rose out_rose (TooLong name reached) s texts = IsTableInTurn told name (λ now. (Lacks now → ⊥) × ((text : List ℕ) → Has now text → 67108864 < length text)) s texts
CauseBy told files_rose out_rose answer s texts = CauseIn s texts files_rose out_rose answer

-- what is left of a search shows what it says
abbrev pub ShownBy : Reached → Settings → List (List ℕ) → Type 0
ShownBy (ShownReached c) s texts = IsShown c s texts
ShownBy reached s texts = Unit {0}

-- the user's words for the verdict of an answer
abbrev pub VerdictBy : Answer → Settings → List (List ℕ) → Type 0
VerdictBy (Optimal c) s texts = IsBest c s texts
VerdictBy (Ranged c r) s texts = HasBestRanges c r s texts
VerdictBy (Infeasible c) s texts = HasNoPoint s texts
VerdictBy (Irreducible c w) s texts = IsIrreducibleSubset c w s texts
VerdictBy (Unbounded c) s texts = HasRay c s texts
VerdictBy (FaultBehindSolve fault c) s texts = IsBest c s texts
VerdictBy (Unranged fault c) s texts = IsBest c s texts
VerdictBy (Undecided limit) s texts = ShownBy (reached_at limit) s texts
VerdictBy answer s texts = Unit {0}

-- these settings and texts are those of the cause, and of all that is written
pub record IsStory (told : ToldNames) (old new : Outside) (files_rose out_rose : Type 0) (answer : Answer) (s : Settings) (texts : List (List ℕ)) : Type 0 where
  pub cause : CauseBy told files_rose out_rose answer s texts
  pub written : PiecesIn s texts (reached_of answer) (ThenLine (extent_of answer) (line_of answer) old new)

-- P, where texts were executed
abbrev pub OnceExecuted : Reached → Type 0 → Type 0
OnceExecuted Nothing P = Unit {0}
OnceExecuted Executed P = P
OnceExecuted SizeReached P = P
OnceExecuted (ShownReached c) P = P
OnceExecuted (AcceptanceReached c) P = P
OnceExecuted (VerdictReached c) P = P
OnceExecuted (SubsetReached c w) P = P
OnceExecuted (RangesReached c r) P = P

-- the cause and all that is written are of the same texts of the files that the words name and that tables are read from
abbrev pub Tells : List (List ℕ) → ToldNames → Outside → Outside → Type 0 → Type 0 → Answer → Type 0
Tells words told old new files_rose out_rose answer = OnceExecuted (reached_of answer) (OfTexts words told (IsStory told old new files_rose out_rose answer))

-- and so is the verdict
abbrev pub IsOfOneText : List (List ℕ) → Outside → Outside → Type 0 → Type 0 → Answer → Type 0
IsOfOneText words old new files_rose out_rose answer =
    OnceExecuted (reached_of answer) (OfTexts words old.told (λ s texts. IsStory old.told old new files_rose out_rose answer s texts × VerdictBy answer s texts))
