-- What is said of an answer by the settings and the texts that were read, as it is said by the words.
use Rattle.std.proofs.Common.{◌≤◌, ℕ, List, ◌++◌, Some, inl}
use Rattle.outside.specs.Causes.{Rose}
use Rattle.outside.specs.declared.store.LoadFault.{LoadFault}
use Rattle.outside.specs.declared.store.LoadFault.TheVariants.{Missing as LoadMissing, Open, Read, TooLong as LoadTooLong, NoMemory as LoadNoMemory}
use Rattle.command_line.specs.declared.settings.Settings.{Settings}
use Rattle.command_line.specs.declared.settings.WordsFault.TheVariants.{Usage as WordsUsage, NoMemory as WordsNoMemory}
use Rattle.glpsol_cli.specs.Asked.{ToldNames, IsInTurn}
use Rattle.glpsol_cli.specs.Pieces.{Piece, Outside, AllWritten, IsWrittenInPart, Part}
use Rattle.glpsol_cli.specs.Meaning.{HasDone, HasFound}
use Rattle.glpsol_cli.specs.Texts.{IsTableInTurn, OfPieces, OfTexts}
use Rattle.glpsol_cli.specs.Cause.{Cause, EndsBehind, EndsWithoutRanges, HasRanges, HasSubset, LacksRanges, IsNotLinear, IsProved, IsReached, IsTested, IsTranslated, OfCertificate, IsAccepted, IsRefusedAt, IsNoCertificate, IsOverflow, IsUndecided, RoseAt}
use Rattle.glpsol_cli.specs.Meaning.{IsRefused}
use Rattle.glpsol_cli.specs.Written.{ThenLine, Written, line_of}
use Rattle.glpsol_cli.specs.Stages.{AreRead, IsStop, IsUnread, WrittenSince, stop_answer, unread_answer}
use Rattle.glpsol_cli.specs.Together.{CauseIn, ReachedIn, PiecesIn}
use Rattle.glpsol_cli.specs.declared.answer.Answer.{Answer}
use Rattle.glpsol_cli.specs.declared.answer.Answer.TheVariants.{Optimal, Ranged, Infeasible, Irreducible, Unbounded, Translated, Accepted, Usage, Missing, OpenFault, ReadFault, WriteFault, TooLong, BadText, FaultBehindSolve, Unranged, BadCertificate, NotLinear, Overflow, Undecided, Refused, NoMemory}
use Rattle.glpsol_cli.specs.declared.answer.Reached.{Reached}
use Rattle.glpsol_cli.specs.declared.answer.Reached.TheVariants.{Nothing, Executed, Size, Shown, Acceptance, Verdict, Subset, Ranges}
use Rattle.glpsol_cli.specs.declared.answer.Target.{Target}
use Rattle.glpsol_cli.specs.declared.answer.Target.TheVariants.{Out, File as FileTarget}
use Rattle.glpsol_cli.specs.declared.stop.Stop.{Stop}
use Rattle.glpsol_cli.specs.declared.stop.Stop.TheVariants.{Words, File, NoMemory as StopNoMemory}
use Rattle.glpsol_cli.proofs.Follow.{rose_within}
use Rattle.glpsol_cli.proofs.Parts.{of_read}
use Rattle.glpsol_cli.proofs.Writing.{all_some, nothing}

pub of_texts : (words : List (List ℕ)) (told : ToldNames) (P Q : Settings → List (List ℕ) → Type 0) → ((s : Settings) (texts : List (List ℕ)) → P s texts → Q s texts) → OfTexts words told P → OfTexts words told Q
of_texts words told P Q f of = record { settings = of.settings; asks = of.asks; texts = of.texts; read = of.read; tables = of.tables; tables_read = of.tables_read; has = f of.settings (of.texts ++ of.tables) of.has }

-- ---- stops

module _ (words : List (List ℕ)) (told : ToldNames) (files_rose out_rose : Type 0) where
  unread_cause : (name : List ℕ) (fault : LoadFault) → IsInTurn words told name × IsUnread (told name) files_rose fault → Cause words told files_rose out_rose (unread_answer Nothing name fault)
  unread_cause name LoadMissing h = h
  unread_cause name Open h = h
  unread_cause name Read h = h
  unread_cause name LoadTooLong h = h
  unread_cause name LoadNoMemory h = tt

  pub stop_cause : (stop : Stop) → IsStop words told files_rose stop → Cause words told files_rose out_rose (stop_answer stop)
  stop_cause (Words WordsUsage) h = h
  stop_cause (Words WordsNoMemory) h = tt
  stop_cause (File u) h = unread_cause u.name u.fault h
  stop_cause StopNoMemory h = tt

  -- a table's file
  pub table_cause : (name : List ℕ) (fault : LoadFault) → OfTexts words told (HasDone (λ done. Unit {0})) → OfTexts words told (IsTableInTurn told name (λ now. IsUnread now files_rose fault)) → Cause words told files_rose out_rose (unread_answer Executed name fault)
  table_cause name LoadMissing done h = h
  table_cause name Open done h = h
  table_cause name Read done h = h
  table_cause name LoadTooLong done h = h
  table_cause name LoadNoMemory done h = done

module _ (words : List (List ℕ)) (old new : Outside) where
  unread_written : (name : List ℕ) (fault : LoadFault) → IsWrittenInPart Out (line_of (unread_answer Nothing name fault)) old new → Written words old new (unread_answer Nothing name fault)
  unread_written name LoadMissing line = (old, nothing old, line)
  unread_written name Open line = (old, nothing old, line)
  unread_written name Read line = (old, nothing old, line)
  unread_written name LoadTooLong line = (old, nothing old, line)
  unread_written name LoadNoMemory line = inl (old, nothing old, line)

  pub stop_written : (stop : Stop) → IsWrittenInPart Out (line_of (stop_answer stop)) old new → Written words old new (stop_answer stop)
  stop_written (Words WordsUsage) line = (old, nothing old, line)
  stop_written (Words WordsNoMemory) line = inl (old, nothing old, line)
  stop_written (File u) line = unread_written u.name u.fault line
  stop_written StopNoMemory line = inl (old, nothing old, line)

  pub table_written : (told : ToldNames) (name : List ℕ) (fault : LoadFault) → OfTexts words told (HasDone (λ done. (middle : Outside) × AllWritten done old middle × IsWrittenInPart Out (line_of (unread_answer Executed name fault)) middle new)) → WrittenSince words told old new (unread_answer Executed name fault)
  table_written told name LoadMissing h = h
  table_written told name Open h = h
  table_written told name Read h = h
  table_written told name LoadTooLong h = h
  table_written told name LoadNoMemory h = of_texts words told (HasDone (λ done. (middle : Outside) × AllWritten done old middle × IsWrittenInPart Out (line_of (unread_answer Executed name LoadNoMemory)) middle new)) (HasDone (ThenLine Part (line_of (unread_answer Executed name LoadNoMemory)) old new))
      (λ s texts done. record { meaning = done.meaning; means = done.means; has = inl (done.has.0, all_some done.meaning.done old done.has.0 done.has.1, done.has.2) }) h

-- ---- what was read are the texts of the words

module _ (words : List (List ℕ)) (told : ToldNames) (s : Settings) (texts : List (List ℕ)) (read : AreRead words told s texts) where
  of_these : (P : Settings → List (List ℕ) → Type 0) → P s texts → OfTexts words told P
  of_these P h = of_read words told s texts read P h

  reached_of_texts : (r : Reached) → ReachedIn s texts r → IsReached words told r
  reached_of_texts Nothing h = tt
  reached_of_texts Executed h = of_these (HasDone (λ done. Unit {0})) h
  reached_of_texts Size h = of_these IsTranslated h
  reached_of_texts (Shown c) h = of_these (IsTested c) h
  reached_of_texts (Acceptance c) h = of_these (OfCertificate (IsAccepted c)) h
  reached_of_texts (Verdict c) h = of_these (IsProved c) h
  reached_of_texts (Subset c w) h = of_these (HasSubset c w) h
  reached_of_texts (Ranges c r) h = of_these (HasRanges c r) h

  pub cause_of_texts : (files_rose out_rose : Type 0) (answer : Answer) → CauseIn s texts files_rose out_rose answer → Cause words told files_rose out_rose answer
  cause_of_texts files_rose out_rose (Optimal c) h = (h.0, of_these (EndsWithoutRanges c) h.1)
  cause_of_texts files_rose out_rose (Ranged c r) h = of_these (HasRanges c r) h
  cause_of_texts files_rose out_rose (Infeasible c) h = (h.0, of_these (IsProved c) h.1)
  cause_of_texts files_rose out_rose (Irreducible c w) h = of_these (HasSubset c w) h
  cause_of_texts files_rose out_rose (Unbounded c) h = (h.0, of_these (IsProved c) h.1)
  cause_of_texts files_rose out_rose Translated h = of_these IsTranslated h
  cause_of_texts files_rose out_rose (Accepted c) h = of_these (OfCertificate (IsAccepted c)) h
  cause_of_texts files_rose out_rose Usage h = absurd h
  cause_of_texts files_rose out_rose (Missing name r) h = absurd h
  cause_of_texts files_rose out_rose (OpenFault name r) h = absurd h
  cause_of_texts files_rose out_rose (ReadFault name r) h = absurd h
  cause_of_texts files_rose out_rose (WriteFault target r) h = (reached_of_texts r h.0, h.1)
  cause_of_texts files_rose out_rose (TooLong name r) h = absurd h
  cause_of_texts files_rose out_rose (BadText fault) h = of_these (IsRefused fault) h
  cause_of_texts files_rose out_rose (FaultBehindSolve fault c) h = (h.0, of_these (EndsBehind (Some fault) c) h.1)
  cause_of_texts files_rose out_rose (Unranged fault c) h = of_these (LacksRanges fault c) h
  cause_of_texts files_rose out_rose (BadCertificate fault) h = of_these (OfCertificate (IsNoCertificate fault)) h
  cause_of_texts files_rose out_rose NotLinear h = of_these IsNotLinear h
  cause_of_texts files_rose out_rose (Overflow at e) h = of_these (IsOverflow at e) h
  cause_of_texts files_rose out_rose (Undecided limit) h = of_these (IsUndecided limit) h
  cause_of_texts files_rose out_rose (Refused part) h = of_these (OfCertificate (IsRefusedAt part)) h
  cause_of_texts files_rose out_rose (NoMemory r) h = reached_of_texts r h

  pub pieces_of_texts : (r : Reached) (P : List Piece → Type 0) → PiecesIn s texts r P → OfPieces words told r P
  pieces_of_texts Nothing P h = h
  pieces_of_texts Executed P h = of_these (HasDone P) h
  pieces_of_texts Size P h = of_these (HasFound Size P) h
  pieces_of_texts (Shown c) P h = of_these (HasFound (Shown c) P) h
  pieces_of_texts (Acceptance c) P h = of_these (HasFound (Acceptance c) P) h
  pieces_of_texts (Verdict c) P h = of_these (HasFound (Verdict c) P) h
  pieces_of_texts (Subset c w) P h = of_these (HasFound (Subset c w) P) h
  pieces_of_texts (Ranges c r) P h = of_these (HasFound (Ranges c r) P) h

-- ---- the counts of faults over a longer time

module _ (s : Settings) (texts : List (List ℕ)) (a b c d : ℕ) (before : a ≤ b) (after : c ≤ d) (p q r t : ℕ) (before' : p ≤ q) (after' : r ≤ t) where
  rose_at : (target : Target) → RoseAt target (Rose b c) (Rose q r) → RoseAt target (Rose a d) (Rose p t)
  rose_at Out h = rose_within p q r t before' after' h
  rose_at (FileTarget name) h = rose_within a b c d before after h

  pub cause_within : (answer : Answer) → CauseIn s texts (Rose b c) (Rose q r) answer → CauseIn s texts (Rose a d) (Rose p t) answer
  cause_within (Optimal c) h = h
  cause_within (Ranged c r) h = h
  cause_within (Infeasible c) h = h
  cause_within (Irreducible c w) h = h
  cause_within (Unbounded c) h = h
  cause_within Translated h = h
  cause_within (Accepted c) h = h
  cause_within Usage h = h
  cause_within (Missing name r) h = h
  cause_within (OpenFault name r) h = h
  cause_within (ReadFault name r) h = h
  cause_within (WriteFault target r) h = (h.0, rose_at target h.1)
  cause_within (TooLong name r) h = h
  cause_within (BadText fault) h = h
  cause_within (FaultBehindSolve fault c) h = h
  cause_within (Unranged fault c) h = h
  cause_within (BadCertificate fault) h = h
  cause_within NotLinear h = h
  cause_within (Overflow at e) h = h
  cause_within (Undecided limit) h = h
  cause_within (Refused part) h = h
  cause_within (NoMemory r) h = h
