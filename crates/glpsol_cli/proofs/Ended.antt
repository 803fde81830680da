-- How a run ends, from how it stands where all is written that was executed, or not all.
use Rattle.std.proofs.Common.{◌≡◌, ◌∙◌, ◌≤◌, ℕ, List, [], ◌∷◌, false, length, take, drop, Option, inl, refl, sym, ap, subst, arith}
use Rattle.std.proofs.KnownBytes.{Appends-nil}
use Rattle.std.specs.Prelude.{Err}
use Rattle.outside.specs.Causes.{Rose}
use Rattle.outside.specs.Told.{AppendsPrefix}
use Rattle.command_line.specs.declared.settings.Settings.{Settings}
use Rattle.glpsol_cli.specs.Asked.{ToldNames, AreTexts, sources_of}
use Rattle.glpsol_cli.specs.Pieces.{Piece, Outside, AllWritten, IsWrittenInPart, SameNames, told_behind}
use Rattle.glpsol_cli.specs.Meaning.{HasDone, HasFound, Meaning, files_behind, files_by, made_in, meaning_in}
use Rattle.glpsol_cli.specs.Texts.{IsTableInTurn, OfPieces, OfTexts}
use Rattle.glpsol_cli.specs.Cause.{Cause, reached_of}
use Rattle.glpsol_cli.specs.Written.{Written, ThenLine, extent_of, line_of}
use Rattle.glpsol_cli.specs.Stages.{AreInputs, EndsWriting, HasFailed, IsEndOf, IsExecution, IsHalt, IsHaltOrUnread, IsRun, IsUnread, IsUnwritten, IsWhole, LeftWritten, Moment, TellsBehind, WrittenSince, texts_in, unread_answer, unwritten_answer}
use Rattle.glpsol_cli.specs.Left.{is_waiting}
use Rattle.glpsol_cli.specs.Together.{CauseIn}
use Rattle.glpsol_cli.specs.declared.answer.Answer.{Answer}
use Rattle.glpsol_cli.specs.declared.answer.Answer.TheVariants.{NoMemory}
use Rattle.glpsol_cli.specs.declared.answer.Reached.{Reached}
use Rattle.glpsol_cli.specs.declared.answer.Reached.TheVariants.{Nothing, Executed, Size, Shown, Acceptance, Verdict, Subset, Ranges}
use Rattle.glpsol_cli.specs.declared.answer.Target.TheVariants.{Out}
use Rattle.glpsol_cli.specs.declared.execution.Executed.{Executed as ExecutedHeld}
use Rattle.glpsol_cli.specs.declared.execution.Halt.{Halt}
use Rattle.glpsol_cli.specs.declared.execution.Halt.TheVariants.{End, Table, Unread}
use Rattle.glpsol_cli.specs.declared.inputs.Inputs.{Inputs}
use Rattle.glpsol_cli.specs.declared.publish.PublishFault.{PublishFault}
use Rattle.glpsol_cli.specs.declared.publish.PublishFault.TheVariants.{Write, CutOutput, NoMemory as PublishNoMemory}
use Rattle.glpsol_cli.specs.declared.stop.Unread.{Unread as UnreadFile}
use Rattle.glpsol_cli.proofs.Answers.{cause_of_texts, cause_within, of_texts, pieces_of_texts, table_cause, table_written}
use Rattle.glpsol_cli.proofs.Carried.{left_in, unwritten_line}
use Rattle.glpsol_cli.proofs.FilesRead.{as_many, many_sources}
use Rattle.glpsol_cli.proofs.Follow.{rose_within}
use Rattle.glpsol_cli.proofs.Parts.{means_of, of_read, read_first, says_as, unread_of_less}
use Rattle.glpsol_cli.proofs.Writing.{failed_within, line_after, line_from, nothing}

-- ---- the end of the execution

module _ (words : List (List ℕ)) (told : ToldNames) (start now : Moment) (s : Settings) (texts : List (List ℕ)) (halt : Halt) (h : IsWhole words told start now s texts halt) where
  -- an end
  pub end_cause : (files out : ℕ) (answer : Answer) → CauseIn s texts (Rose now.files files) (Rose now.out out) answer → Cause words told (Rose start.files files) (Rose start.out out) answer
  end_cause files out answer k =
      cause_of_texts words told s texts h.at.are_read (Rose start.files files) (Rose start.out out) answer
      (cause_within s texts start.files now.files files files h.at.since.files_later (omega arith) start.out now.out out out h.at.since.out_later (omega arith) answer k)

  pub end_written : (new : Outside) (answer : Answer) → LeftWritten s texts now.outside new answer → WrittenSince words told start.outside new answer
  end_written new answer left =
      let m : Meaning = meaning_in s h.text h.data_texts h.tables in
      pieces_of_texts words told s texts h.at.are_read (reached_of answer) (ThenLine (extent_of answer) (line_of answer) start.outside new)
      (left_in s texts m (means_of s texts h.text h.data_texts h.tables h.at.parts) (reached_of answer) (ThenLine (extent_of answer) (line_of answer) now.outside new) (ThenLine (extent_of answer) (line_of answer) start.outside new)
      (λ ps k. line_after (extent_of answer) (line_of answer) m.done ps start.outside now.outside new h.at.since.written k) left)

  done_so : (P : List Piece → Type 0) → P (meaning_in s h.text h.data_texts h.tables).done → OfTexts words told (HasDone P)
  done_so P p = of_read words told s texts h.at.are_read (HasDone P) (record { meaning = meaning_in s h.text h.data_texts h.tables; means = means_of s texts h.text h.data_texts h.tables h.at.parts; has = p })

  -- a table's file is not read
  module _ (u : UnreadFile) (is_halt : halt ≡ Unread u) (made answer : Answer) (means : made ≡ unread_answer Executed u.name u.fault) (told_is : answer ≡ made) where
    pub table_unread_cause : (files : ℕ) (out_rose : Type 0) → now.files ≤ files → Cause words told (Rose start.files files) out_rose answer
    table_unread_cause files out_rose later =
        let said = told_behind told (files_by (made_in s.language h.text h.data_texts h.tables)) u.name in
        let unread = subst (IsHaltOrUnread told (Rose start.files now.files) s h.text h.data_texts h.tables) is_halt h.is_halt in
        subst (Cause words told (Rose start.files files) out_rose) (sym (told_is ∙ means))
        (table_cause words told (Rose start.files files) out_rose u.name u.fault (done_so (λ done. Unit {0}) tt)
        (of_read words told s texts h.at.are_read (IsTableInTurn told u.name (λ now. IsUnread now (Rose start.files files) u.fault))
        (record {
          meaning = meaning_in s h.text h.data_texts h.tables;
          means = means_of s texts h.text h.data_texts h.tables h.at.parts;
          wants = unread.0;
          has = unread_of_less said said (λ is e. e) (Rose start.files now.files) (Rose start.files files) (rose_within start.files start.files now.files files (omega arith) later) u.fault unread.1;
        })))

    pub table_unread_written : (taken : Option (List ℕ)) → AppendsPrefix now.outside.taken taken (line_of made) → WrittenSince words told start.outside (record { taken = taken; told = now.outside.told }) answer
    table_unread_written taken line =
        let new : Outside = record { taken = taken; told = now.outside.told } in
        subst (WrittenSince words told start.outside new) (sym (told_is ∙ means))
        (table_written words start.outside new told u.name u.fault
        (done_so (λ done. (middle : Outside) × AllWritten done start.outside middle × IsWrittenInPart Out (line_of (unread_answer Executed u.name u.fault)) middle new)
        (now.outside, h.at.since.written, (subst (λ a. AppendsPrefix now.outside.taken taken (line_of a)) means line, λ name. refl))))

-- the end is one of the texts
pub end_of_whole : (words : List (List ℕ)) (told : ToldNames) (start now : Moment) (s : Settings) (texts : List (List ℕ)) (halt : Halt) → is_waiting halt ≡ false → IsWhole words told start now s texts halt → IsEndOf s texts halt
end_of_whole words told start now s texts (End end) over h = record { text = h.text; data_texts = h.data_texts; tables = h.tables; parts = h.at.parts; is_end = h.is_halt }
end_of_whole words told start now s texts (Table w) over h = cc
end_of_whole words told start now s texts (Unread u) over h = tt

-- ---- not all is written

module _ (words : List (List ℕ)) (told : ToldNames) (start now : Moment) (fault : PublishFault) (h : IsUnwritten words told start now fault) (made answer : Answer) (means : made ≡ unwritten_answer Executed fault) (told_is : answer ≡ made) where
  cause_by : (files_rose out_rose : Type 0) (f : PublishFault) → OfTexts words told (HasDone (λ done. Unit {0})) → HasFailed files_rose out_rose f → Cause words told files_rose out_rose (unwritten_answer Executed f)
  cause_by files_rose out_rose (Write target) done failed = (done, failed)
  cause_by files_rose out_rose CutOutput done failed = done
  cause_by files_rose out_rose PublishNoMemory done failed = done

  pub unwritten_cause : (out : ℕ) → now.out ≤ out → Cause words told (Rose start.files now.files) (Rose start.out out) answer
  unwritten_cause out later =
      subst (Cause words told (Rose start.files now.files) (Rose start.out out)) (sym (told_is ∙ means))
      (cause_by (Rose start.files now.files) (Rose start.out out) fault
      (of_texts words told (HasDone (λ done. EndsWriting {T = Unit {0}} done start.outside now.outside (Err fault))) (HasDone (λ done. Unit {0})) (λ s texts d. record { meaning = d.meaning; means = d.means; has = tt }) h.done)
      (failed_within start.files start.files now.files now.files (omega arith) (omega arith) start.out start.out now.out out (omega arith) later fault h.failed))

  written_by : (new : Outside) (f : PublishFault) → OfTexts words told (HasDone (ThenLine (extent_of (unwritten_answer Executed f)) (line_of (unwritten_answer Executed f)) start.outside new)) → WrittenSince words told start.outside new (unwritten_answer Executed f)
  written_by new (Write target) k = k
  written_by new CutOutput k = k
  written_by new PublishNoMemory k = k

  pub unwritten_written : (taken : Option (List ℕ)) → TellsBehind fault now.outside.taken taken made → WrittenSince words told start.outside (record { taken = taken; told = now.outside.told }) answer
  unwritten_written taken line =
      let new : Outside = record { taken = taken; told = now.outside.told } in
      let built : Answer = unwritten_answer Executed fault in
      subst (WrittenSince words told start.outside new) (sym (told_is ∙ means))
      (written_by new fault
      (of_texts words told (HasDone (λ done. EndsWriting {T = Unit {0}} done start.outside now.outside (Err fault))) (HasDone (ThenLine (extent_of built) (line_of built) start.outside new))
      (λ s texts d. record {
        meaning = d.meaning;
        means = d.means;
        has = unwritten_line Executed fault d.meaning.done start.outside now.outside taken d.has (subst (TellsBehind fault now.outside.taken taken) means line);
      }) h.done))

-- ---- from the inputs on

module _ (words : List (List ℕ)) (told : ToldNames) (inputs : Inputs) (are : AreInputs words told inputs) (now : Moment) (same : SameNames told now.outside.told) (count : ℕ) (before : count ≤ now.files) where
  abbrev start : Moment
  start = record { outside = now.outside; files = count; out = now.out }

  long_enough : (texts others : List (List ℕ)) (text : List ℕ) → texts ≡ text ∷ others → AreTexts told (sources_of inputs.settings) texts → length others ≡ files_behind inputs.settings
  long_enough texts others text is read =
      let many : length texts ≡ length (sources_of inputs.settings) = as_many told (sources_of inputs.settings) texts read in
      let long : length texts ≡ length (text ∷ others) = ap length is in
      let sources = many_sources inputs.settings in
      omega (arith, many, long, sources)

  none_left : (n : ℕ) (xs : List (List ℕ)) → length xs ≡ n → drop n xs ≡ []
  none_left n xs e = subst (λ k. drop k xs ≡ []) e (drop_whole xs)
    where
      drop_whole : (ys : List (List ℕ)) → drop (length ys) ys ≡ []
      drop_whole [] = refl
      drop_whole (y ∷ ys) = drop_whole ys

  fresh : (rose : Type 0) (text : List ℕ) (data_texts : List (List ℕ)) (halt : Halt) → IsHalt inputs.settings text data_texts [] halt → IsHaltOrUnread told rose inputs.settings text data_texts [] halt
  fresh rose text data_texts (End end) k = k
  fresh rose text data_texts (Table w) k = k
  fresh rose text data_texts (Unread u) k = absurd k

  pub run_first : (e : ExecutedHeld) → IsExecution inputs.settings (texts_in inputs) e → IsRun words told start now inputs.settings (texts_in inputs) e
  run_first e x =
      let s : Settings = inputs.settings in
      let long : length x.others ≡ files_behind s = long_enough (texts_in inputs) x.others x.text x.are are.read in
      record {
        text = x.text;
        data_texts = take (length s.data_files) x.others;
        tables = [];
        before = [];
        at = record {
          are_read = read_first words told inputs are;
          parts = record { others = x.others; are = x.are; enough = omega (arith, long); data_are = refl; tables_are = none_left (files_behind s) x.others long };
          since = record { says = says_as told now.outside.told same; written = nothing now.outside; files_later = before; out_later = omega arith };
        };
        files = x.execution.files;
        shown = x.execution.shown;
        halt = fresh (Rose count now.files) x.text (take (length s.data_files) x.others) e.halt x.execution.halt;
      }

-- there is no memory for the execution
pub unexecuted_cause : (files_rose out_rose : Type 0) (words : List (List ℕ)) (told : ToldNames) (answer : Answer) → answer ≡ NoMemory Nothing → Cause words told files_rose out_rose answer
unexecuted_cause files_rose out_rose words told answer is = subst (Cause words told files_rose out_rose) (sym is) tt

pub unexecuted_written : (words : List (List ℕ)) (told : ToldNames) (taken taken' : Option (List ℕ)) (told' : ToldNames) (answer : Answer) → answer ≡ NoMemory Nothing → AppendsPrefix taken taken' (line_of (NoMemory Nothing)) → WrittenSince words told (record { taken = taken; told = told' }) (record { taken = taken'; told = told' }) answer
unexecuted_written words told taken taken' told' answer is line =
    let old : Outside = record { taken = taken; told = told' } in
    let new : Outside = record { taken = taken'; told = told' } in
    subst (WrittenSince words told old new) (sym is) (inl (old, nothing old, (line, λ name. refl)))

-- ---- by the outside that the words found

-- P holds of all that is to be written, where it follows from Q
pieces_also : (words : List (List ℕ)) (told : ToldNames) (r : Reached) (P Q : List Piece → Type 0) → ((ps : List Piece) → Q ps → P ps) → OfPieces words told r Q → OfPieces words told r P
pieces_also words told Nothing P Q f h = f [] h
pieces_also words told Executed P Q f h = of_texts words told (HasDone Q) (HasDone P) (λ s texts d. record { meaning = d.meaning; means = d.means; has = f d.meaning.done d.has }) h
pieces_also words told Size P Q f h = of_texts words told (HasFound Size Q) (HasFound Size P) (λ s texts d. record { meaning = d.meaning; means = d.means; problem = d.problem; end = d.end; found = d.found; are = d.are; has = f _ d.has }) h
pieces_also words told (Shown c) P Q f h = of_texts words told (HasFound (Shown c) Q) (HasFound (Shown c) P) (λ s texts d. record { meaning = d.meaning; means = d.means; problem = d.problem; end = d.end; found = d.found; are = d.are; has = f _ d.has }) h
pieces_also words told (Acceptance c) P Q f h = of_texts words told (HasFound (Acceptance c) Q) (HasFound (Acceptance c) P) (λ s texts d. record { meaning = d.meaning; means = d.means; problem = d.problem; end = d.end; found = d.found; are = d.are; has = f _ d.has }) h
pieces_also words told (Verdict c) P Q f h = of_texts words told (HasFound (Verdict c) Q) (HasFound (Verdict c) P) (λ s texts d. record { meaning = d.meaning; means = d.means; problem = d.problem; end = d.end; found = d.found; are = d.are; has = f _ d.has }) h
pieces_also words told (Subset c w) P Q f h = of_texts words told (HasFound (Subset c w) Q) (HasFound (Subset c w) P) (λ s texts d. record { meaning = d.meaning; means = d.means; problem = d.problem; end = d.end; found = d.found; are = d.are; has = f _ d.has }) h
pieces_also words told (Ranges c r) P Q f h = of_texts words told (HasFound (Ranges c r) Q) (HasFound (Ranges c r) P) (λ s texts d. record { meaning = d.meaning; means = d.means; problem = d.problem; end = d.end; found = d.found; are = d.are; has = f _ d.has }) h

pub written_from_start : (words : List (List ℕ)) (taken : Option (List ℕ)) (told told' : ToldNames) (new : Outside) (answer : Answer) → SameNames told told' → WrittenSince words told (record { taken = taken; told = told' }) new answer → Written words (record { taken = taken; told = told }) new answer
written_from_start words taken told told' new answer same h =
    let old : Outside = record { taken = taken; told = told } in
    let middle : Outside = record { taken = taken; told = told' } in
    pieces_also words told (reached_of answer) (ThenLine (extent_of answer) (line_of answer) old new) (ThenLine (extent_of answer) (line_of answer) middle new)
    (λ ps k. line_from old middle (Appends-nil taken, same) (extent_of answer) (line_of answer) ps new k) h
