-- The cause of an answer and all that is written are of the same texts.
use Rattle.std.proofs.Common.{◌≡◌, ◌∙◌, ◌≤◌, ℕ, List, [], Option, inl, refl, sym, subst, arith}
use Rattle.std.proofs.KnownBytes.{Appends-nil}
use Rattle.std.specs.Prelude.{Err}
use Rattle.outside.specs.Causes.{Rose}
use Rattle.outside.specs.Told.{AppendsPrefix}
use Rattle.outside.specs.declared.store.LoadFault.{LoadFault}
use Rattle.outside.specs.declared.store.LoadFault.TheVariants.{Missing as LoadMissing, Open, Read, TooLong as LoadTooLong, NoMemory as LoadNoMemory}
use Rattle.command_line.specs.declared.settings.Settings.{Settings}
use Rattle.command_line.specs.declared.settings.WordsFault.TheVariants.{Usage as WordsUsage, NoMemory as WordsNoMemory}
use Rattle.glpsol_cli.specs.Asked.{ToldNames}
use Rattle.glpsol_cli.specs.Pieces.{Piece, Outside, AllWritten, IsWrittenInPart, SameNames, told_behind}
use Rattle.glpsol_cli.specs.Meaning.{HasDone, Meaning, files_by, made_in, meaning_in}
use Rattle.glpsol_cli.specs.Texts.{IsTableInTurn, OfTexts}
use Rattle.glpsol_cli.specs.Cause.{reached_at, reached_of}
use Rattle.glpsol_cli.specs.Written.{ThenLine, extent_of, line_of}
use Rattle.glpsol_cli.specs.Together.{CauseIn, CauseBy, IsOfOneText, IsStory, OnceExecuted, PiecesIn, Tells, VerdictBy}
use Rattle.glpsol_cli.specs.Stages.{EndsWriting, IsHaltOrUnread, IsUnread, IsUnwritten, IsWhole, LeftWritten, Moment, TellsBehind, stop_answer, unread_answer, unwritten_answer}
use Rattle.glpsol_cli.specs.declared.answer.Answer.{Answer}
use Rattle.glpsol_cli.specs.declared.answer.Answer.TheVariants.{Optimal, Ranged, Infeasible, Irreducible, Unbounded, Translated, Accepted, Usage, Missing, OpenFault, ReadFault, WriteFault, TooLong, BadText, FaultBehindSolve, Unranged, BadCertificate, NotLinear, Overflow, Undecided, Refused, NoMemory}
use Rattle.glpsol_cli.specs.declared.answer.Reached.{Reached}
use Rattle.glpsol_cli.specs.declared.answer.Reached.TheVariants.{Nothing, Executed, Size, Shown, Acceptance, Verdict, Subset, Ranges}
use Rattle.glpsol_cli.specs.declared.answer.Target.TheVariants.{Out}
use Rattle.glpsol_cli.specs.declared.execution.Halt.{Halt}
use Rattle.glpsol_cli.specs.declared.execution.Halt.TheVariants.{Unread}
use Rattle.glpsol_cli.specs.declared.publish.PublishFault.{PublishFault}
use Rattle.glpsol_cli.specs.declared.stop.Stop.{Stop}
use Rattle.glpsol_cli.specs.declared.stop.Stop.TheVariants.{Words, File, NoMemory as StopNoMemory}
use Rattle.glpsol_cli.specs.declared.stop.Unread.{Unread as UnreadFile}
use Rattle.glpsol_cli.proofs.Answers.{cause_within, of_texts}
use Rattle.glpsol_cli.proofs.Carried.{left_in, reached_unwritten, unwritten_cause, unwritten_line}
use Rattle.glpsol_cli.proofs.Follow.{rose_within}
use Rattle.glpsol_cli.proofs.Leaving.{AreShowing, limit_tested, shown_by}
use Rattle.glpsol_cli.proofs.Parts.{means_of, of_read, unread_of_less}
use Rattle.glpsol_cli.proofs.Verdicts.{AreRight, best, best_ranges, irreducible, no_point, ray}
use Rattle.glpsol_cli.proofs.Writing.{all_some, failed_within, line_after, line_from}

-- ---- once texts were executed

once : (r : Reached) (P : Type 0) → P → OnceExecuted r P
once Nothing P h = tt
once Executed P h = h
once Size P h = h
once (Shown c) P h = h
once (Acceptance c) P h = h
once (Verdict c) P h = h
once (Subset c w) P h = h
once (Ranges c r) P h = h

once_also : (r : Reached) (P Q : Type 0) → (P → Q) → OnceExecuted r P → OnceExecuted r Q
once_also Nothing P Q f h = tt
once_also Executed P Q f h = f h
once_also Size P Q f h = f h
once_also (Shown c) P Q f h = f h
once_also (Acceptance c) P Q f h = f h
once_also (Verdict c) P Q f h = f h
once_also (Subset c w) P Q f h = f h
once_also (Ranges c r) P Q f h = f h

cause_by : (told : ToldNames) (files_rose out_rose : Type 0) (answer : Answer) (s : Settings) (texts : List (List ℕ)) → CauseIn s texts files_rose out_rose answer → CauseBy told files_rose out_rose answer s texts
cause_by told files_rose out_rose (Optimal c) s texts h = h
cause_by told files_rose out_rose (Ranged c r) s texts h = h
cause_by told files_rose out_rose (Infeasible c) s texts h = h
cause_by told files_rose out_rose (Irreducible c w) s texts h = h
cause_by told files_rose out_rose (Unbounded c) s texts h = h
cause_by told files_rose out_rose Translated s texts h = h
cause_by told files_rose out_rose (Accepted c) s texts h = h
cause_by told files_rose out_rose Usage s texts h = h
cause_by told files_rose out_rose (Missing name r) s texts h = absurd h
cause_by told files_rose out_rose (OpenFault name r) s texts h = absurd h
cause_by told files_rose out_rose (ReadFault name r) s texts h = absurd h
cause_by told files_rose out_rose (WriteFault target r) s texts h = h
cause_by told files_rose out_rose (TooLong name r) s texts h = absurd h
cause_by told files_rose out_rose (BadText fault) s texts h = h
cause_by told files_rose out_rose (FaultBehindSolve fault c) s texts h = h
cause_by told files_rose out_rose (Unranged fault c) s texts h = h
cause_by told files_rose out_rose (BadCertificate fault) s texts h = h
cause_by told files_rose out_rose NotLinear s texts h = h
cause_by told files_rose out_rose (Overflow at e) s texts h = h
cause_by told files_rose out_rose (Undecided limit) s texts h = h
cause_by told files_rose out_rose (Refused part) s texts h = h
cause_by told files_rose out_rose (NoMemory r) s texts h = h

-- P holds of all that is to be written, where it follows from Q
pieces_also : (s : Settings) (texts : List (List ℕ)) (r : Reached) (P Q : List Piece → Type 0) → ((ps : List Piece) → Q ps → P ps) → PiecesIn s texts r Q → PiecesIn s texts r P
pieces_also s texts Nothing P Q f h = f [] h
pieces_also s texts Executed P Q f h = record { meaning = h.meaning; means = h.means; has = f h.meaning.done h.has }
pieces_also s texts Size P Q f h = record { meaning = h.meaning; means = h.means; problem = h.problem; end = h.end; found = h.found; are = h.are; has = f _ h.has }
pieces_also s texts (Shown c) P Q f h = record { meaning = h.meaning; means = h.means; problem = h.problem; end = h.end; found = h.found; are = h.are; has = f _ h.has }
pieces_also s texts (Acceptance c) P Q f h = record { meaning = h.meaning; means = h.means; problem = h.problem; end = h.end; found = h.found; are = h.are; has = f _ h.has }
pieces_also s texts (Verdict c) P Q f h = record { meaning = h.meaning; means = h.means; problem = h.problem; end = h.end; found = h.found; are = h.are; has = f _ h.has }
pieces_also s texts (Subset c w) P Q f h = record { meaning = h.meaning; means = h.means; problem = h.problem; end = h.end; found = h.found; are = h.are; has = f _ h.has }
pieces_also s texts (Ranges c r) P Q f h = record { meaning = h.meaning; means = h.means; problem = h.problem; end = h.end; found = h.found; are = h.are; has = f _ h.has }

-- ---- stops, before anything is executed

module _ (words : List (List ℕ)) (told : ToldNames) (old new : Outside) (files_rose out_rose : Type 0) where
  unread_tells : (name : List ℕ) (fault : LoadFault) → Tells words told old new files_rose out_rose (unread_answer Nothing name fault)
  unread_tells name LoadMissing = tt
  unread_tells name Open = tt
  unread_tells name Read = tt
  unread_tells name LoadTooLong = tt
  unread_tells name LoadNoMemory = tt

  stop_tells : (stop : Stop) → Tells words told old new files_rose out_rose (stop_answer stop)
  stop_tells (Words WordsUsage) = tt
  stop_tells (Words WordsNoMemory) = tt
  stop_tells (File u) = unread_tells u.name u.fault
  stop_tells StopNoMemory = tt

  pub stopped_tells : (stop : Stop) (made answer : Answer) → made ≡ stop_answer stop → answer ≡ made → Tells words told old new files_rose out_rose answer
  stopped_tells stop made answer means told_is = subst (Tells words told old new files_rose out_rose) (sym (told_is ∙ means)) (stop_tells stop)

  pub unexecuted_tells : (answer : Answer) → answer ≡ NoMemory Nothing → Tells words told old new files_rose out_rose answer
  unexecuted_tells answer is = subst (Tells words told old new files_rose out_rose) (sym is) tt

-- ---- the end of the execution

module _ (words : List (List ℕ)) (told : ToldNames) (start now : Moment) (s : Settings) (texts : List (List ℕ)) (halt : Halt) (h : IsWhole words told start now s texts halt) where
  abbrev means : Meaning
  means = meaning_in s h.text h.data_texts h.tables

  done_so : (P : List Piece → Type 0) → P means.done → HasDone P s texts
  done_so P p = record { meaning = means; means = means_of s texts h.text h.data_texts h.tables h.at.parts; has = p }

  of_story : (new : Outside) (files_rose out_rose : Type 0) (answer : Answer) → IsStory told start.outside new files_rose out_rose answer s texts → Tells words told start.outside new files_rose out_rose answer
  of_story new files_rose out_rose answer story =
      once (reached_of answer) (OfTexts words told (IsStory told start.outside new files_rose out_rose answer))
      (of_read words told s texts h.at.are_read (IsStory told start.outside new files_rose out_rose answer) story)

  -- an end
  pub end_tells : (files out : ℕ) (new : Outside) (answer : Answer) → CauseIn s texts (Rose now.files files) (Rose now.out out) answer → LeftWritten s texts now.outside new answer
      → Tells words told start.outside new (Rose start.files files) (Rose start.out out) answer
  end_tells files out new answer k left = of_story new (Rose start.files files) (Rose start.out out) answer (record {
    cause = cause_by told (Rose start.files files) (Rose start.out out) answer s texts
        (cause_within s texts start.files now.files files files h.at.since.files_later (omega arith) start.out now.out out out h.at.since.out_later (omega arith) answer k);
    written = left_in s texts means (means_of s texts h.text h.data_texts h.tables h.at.parts) (reached_of answer) (ThenLine (extent_of answer) (line_of answer) now.outside new) (ThenLine (extent_of answer) (line_of answer) start.outside new)
        (λ ps j. line_after (extent_of answer) (line_of answer) means.done ps start.outside now.outside new h.at.since.written j) left;
  })

  table_tells : (new : Outside) (files_rose out_rose : Type 0) (name : List ℕ) (fault : LoadFault) → IsTableInTurn told name (λ now. IsUnread now files_rose fault) s texts
      → (middle : Outside) × AllWritten means.done start.outside middle × IsWrittenInPart Out (line_of (unread_answer Executed name fault)) middle new
      → Tells words told start.outside new files_rose out_rose (unread_answer Executed name fault)
  table_tells new files_rose out_rose name LoadMissing turn line = of_story new files_rose out_rose (Missing name Executed) (record { cause = turn; written = done_so _ line })
  table_tells new files_rose out_rose name Open turn line = of_story new files_rose out_rose (OpenFault name Executed) (record { cause = turn; written = done_so _ line })
  table_tells new files_rose out_rose name Read turn line = of_story new files_rose out_rose (ReadFault name Executed) (record { cause = turn; written = done_so _ line })
  table_tells new files_rose out_rose name LoadTooLong turn line = of_story new files_rose out_rose (TooLong name Executed) (record { cause = turn; written = done_so _ line })
  table_tells new files_rose out_rose name LoadNoMemory turn line = of_story new files_rose out_rose (NoMemory Executed) (record {
    cause = done_so (λ done. Unit {0}) tt;
    written = done_so (ThenLine (extent_of (NoMemory Executed)) (line_of (NoMemory Executed)) start.outside new) (inl (line.0, all_some means.done start.outside line.0 line.1, line.2));
  })

  -- a table's file is not read
  pub table_unread_tells : (u : UnreadFile) → halt ≡ Unread u → (made answer : Answer) → made ≡ unread_answer Executed u.name u.fault → answer ≡ made → (files : ℕ) (out_rose : Type 0) (taken : Option (List ℕ)) → now.files ≤ files
      → AppendsPrefix now.outside.taken taken (line_of made) → Tells words told start.outside (record { taken = taken; told = now.outside.told }) (Rose start.files files) out_rose answer
  table_unread_tells u is_halt made answer is told_is files out_rose taken later line =
      let new : Outside = record { taken = taken; told = now.outside.told } in
      let said = told_behind told (files_by (made_in s.language h.text h.data_texts h.tables)) u.name in
      let unread = subst (IsHaltOrUnread told (Rose start.files now.files) s h.text h.data_texts h.tables) is_halt h.is_halt in
      subst (Tells words told start.outside new (Rose start.files files) out_rose) (sym (told_is ∙ is))
      (table_tells new (Rose start.files files) out_rose u.name u.fault
      (record {
        meaning = means;
        means = means_of s texts h.text h.data_texts h.tables h.at.parts;
        wants = unread.0;
        has = unread_of_less said said (λ is e. e) (Rose start.files now.files) (Rose start.files files) (rose_within start.files start.files now.files files (omega arith) later) u.fault unread.1;
      })
      (now.outside, h.at.since.written, (subst (λ a. AppendsPrefix now.outside.taken taken (line_of a)) is line, λ name. refl)))

-- ---- not all is written

pub unwritten_tells : (words : List (List ℕ)) (told : ToldNames) (start now : Moment) (fault : PublishFault) → IsUnwritten words told start now fault → (made answer : Answer) → made ≡ unwritten_answer Executed fault → answer ≡ made → (out : ℕ) (taken : Option (List ℕ)) → now.out ≤ out
    → TellsBehind fault now.outside.taken taken made → Tells words told start.outside (record { taken = taken; told = now.outside.told }) (Rose start.files now.files) (Rose start.out out) answer
unwritten_tells words told start now fault h made answer is told_is out taken later line =
    let new : Outside = record { taken = taken; told = now.outside.told } in
    let built : Answer = unwritten_answer Executed fault in
    let files_rose : Type 0 = Rose start.files now.files in
    let out_rose : Type 0 = Rose start.out out in
    subst (Tells words told start.outside new files_rose out_rose) (sym (told_is ∙ is))
    (once (reached_of built) (OfTexts words told (IsStory told start.outside new files_rose out_rose built))
    (of_texts words told (HasDone (λ done. EndsWriting {T = Unit {0}} done start.outside now.outside (Err fault))) (IsStory told start.outside new files_rose out_rose built)
    (λ s texts d. record {
      cause = cause_by told files_rose out_rose built s texts
          (unwritten_cause s texts files_rose out_rose Executed fault (record { meaning = d.meaning; means = d.means; has = tt })
          (failed_within start.files start.files now.files now.files (omega arith) (omega arith) start.out start.out now.out out (omega arith) later fault h.failed));
      written = subst (λ r. PiecesIn s texts r (ThenLine (extent_of built) (line_of built) start.outside new)) (sym (reached_unwritten Executed fault))
          (record { meaning = d.meaning; means = d.means; has = unwritten_line Executed fault d.meaning.done start.outside now.outside taken d.has (subst (TellsBehind fault now.outside.taken taken) is line) });
    }) h.done))

-- ---- by the outside that the words found

pub tells_from_start : (words : List (List ℕ)) (taken : Option (List ℕ)) (told told' : ToldNames) (new : Outside) (files_rose out_rose : Type 0) (answer : Answer) → SameNames told told'
    → Tells words told (record { taken = taken; told = told' }) new files_rose out_rose answer → Tells words told (record { taken = taken; told = told }) new files_rose out_rose answer
tells_from_start words taken told told' new files_rose out_rose answer same h =
    let old : Outside = record { taken = taken; told = told } in
    let middle : Outside = record { taken = taken; told = told' } in
    once_also (reached_of answer) (OfTexts words told (IsStory told middle new files_rose out_rose answer)) (OfTexts words told (IsStory told old new files_rose out_rose answer))
    (of_texts words told (IsStory told middle new files_rose out_rose answer) (IsStory told old new files_rose out_rose answer)
    (λ s texts story. record {
      cause = story.cause;
      written = pieces_also s texts (reached_of answer) (ThenLine (extent_of answer) (line_of answer) old new) (ThenLine (extent_of answer) (line_of answer) middle new)
          (λ ps k. line_from old middle (Appends-nil taken, same) (extent_of answer) (line_of answer) ps new k) story.written;
    })) h

-- ---- with the verdict

module _ (words : List (List ℕ)) (old new : Outside) (files_rose out_rose : Type 0) (right : AreRight) (showing : AreShowing) where
  verdict_by : (answer : Answer) (s : Settings) (texts : List (List ℕ)) → CauseBy old.told files_rose out_rose answer s texts → VerdictBy answer s texts
  verdict_by (Optimal c) s texts h = best words old.told c right s texts h.0 h.1.ends.proved
  verdict_by (Ranged c r) s texts h = best_ranges words old.told c r right s texts h
  verdict_by (Infeasible c) s texts h = no_point words old.told c right s texts h.0 h.1
  verdict_by (Irreducible c w) s texts h = irreducible words old.told c w right s texts h
  verdict_by (Unbounded c) s texts h = ray words old.told c right s texts h.0 h.1
  verdict_by Translated s texts h = tt
  verdict_by (Accepted c) s texts h = tt
  verdict_by Usage s texts h = tt
  verdict_by (Missing name r) s texts h = tt
  verdict_by (OpenFault name r) s texts h = tt
  verdict_by (ReadFault name r) s texts h = tt
  verdict_by (WriteFault target r) s texts h = tt
  verdict_by (TooLong name r) s texts h = tt
  verdict_by (BadText fault) s texts h = tt
  verdict_by (FaultBehindSolve fault c) s texts h = best words old.told c right s texts h.0 h.1.proved
  verdict_by (Unranged fault c) s texts h = best words old.told c right s texts h.best h.ends.proved
  verdict_by (BadCertificate fault) s texts h = tt
  verdict_by NotLinear s texts h = tt
  verdict_by (Overflow at e) s texts h = tt
  verdict_by (Undecided limit) s texts h = shown_by showing (reached_at limit) s texts (λ d e. limit_tested limit d s texts e h)
  verdict_by (Refused part) s texts h = tt
  verdict_by (NoMemory r) s texts h = tt

  pub of_one_text : (answer : Answer) → Tells words old.told old new files_rose out_rose answer → IsOfOneText words old new files_rose out_rose answer
  of_one_text answer h =
      once_also (reached_of answer) (OfTexts words old.told (IsStory old.told old new files_rose out_rose answer))
      (OfTexts words old.told (λ s texts. IsStory old.told old new files_rose out_rose answer s texts × VerdictBy answer s texts))
      (of_texts words old.told (IsStory old.told old new files_rose out_rose answer) (λ s texts. IsStory old.told old new files_rose out_rose answer s texts × VerdictBy answer s texts)
      (λ s texts story. (story, verdict_by answer s texts story.cause))) h
