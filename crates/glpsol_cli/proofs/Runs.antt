-- How a run stands while tables are read.
use Rattle.std.proofs.Common.{◌≡◌, ◌∙◌, ◌≤◌, ℕ, List, [], ◌∷◌, ◌++◌, sym, ap, subst, arith}
use Rattle.std.proofs.lemmas.List.{append-nil, append_assoc}
use Rattle.std.proofs.KnownBytes.{Appends-nil}
use Rattle.std.specs.Prelude.{Err}
use Rattle.outside.specs.Causes.{Rose}
use Rattle.command_line.specs.declared.settings.Language.{Language}
use Rattle.command_line.specs.declared.settings.Settings.{Settings}
use Rattle.glpsol_cli.specs.Asked.{ToldNames, IsTextOf}
use Rattle.glpsol_cli.specs.Pieces.{Piece, AllWritten, SameNames, Says, Whole, told_behind}
use Rattle.glpsol_cli.specs.Meaning.{HasDone, Wanting, file_pieces, files_by, made_in, meaning_in, shown_by}
use Rattle.glpsol_cli.specs.Texts.{IsTableText}
use Rattle.glpsol_cli.specs.Stages.{EndsWriting, GoesOn, HasFailed, IsAt, IsHalt, IsHaltOrUnread, IsPaused, IsRun, IsSince, IsTableExecuted, IsUnread, IsUnwritten, IsWhole, Moment, pieces_of, texts_in}
use Rattle.glpsol_cli.specs.declared.execution.Executed.{Executed}
use Rattle.glpsol_cli.specs.declared.execution.Halt.{Halt}
use Rattle.glpsol_cli.specs.declared.execution.Halt.TheVariants.{End, Table, Unread}
use Rattle.glpsol_cli.specs.declared.execution.Waiting.{Waiting}
use Rattle.glpsol_cli.specs.declared.inputs.Inputs.{Inputs}
use Rattle.glpsol_cli.specs.declared.publish.PublishFault.{PublishFault}
use Rattle.glpsol_cli.specs.declared.publish.PublishFault.TheVariants.{NoMemory}
use Rattle.glpsol_cli.specs.declared.stop.Unread.{Unread as UnreadFile}
use Rattle.glpsol_cli.specs.declared.tables.Run.{Run}
use Rattle.glpsol_cli.proofs.Follow.{rose_within}
use Rattle.glpsol_cli.proofs.Parts.{means_of, of_read, parts_push, read_push, says_behind, text_of_less, unread_of_less}
use Rattle.glpsol_cli.proofs.Writing.{all_some, ends_after, ends_of_more, failed_within, some_of_more, written_after}

-- ---- since the start

-- more is written
since_more : (told : ToldNames) (ps qs : List Piece) (start now later : Moment) → IsSince told ps start now → AllWritten qs now.outside later.outside → now.files ≤ later.files → now.out ≤ later.out → IsSince told (ps ++ qs) start later
since_more told ps qs start now later h all files out =
    let was_files = h.files_later in
    let was_out = h.out_later in
    record {
      says = h.says;
      written = written_after Whole ps qs start.outside now.outside later.outside h.written all;
      files_later = omega (arith, was_files, files);
      out_later = omega (arith, was_out, out);
    }

-- nothing is written
since_same : (told : ToldNames) (ps : List Piece) (start now : Moment) (files : ℕ) (told' : ToldNames) → IsSince told ps start now → SameNames now.outside.told told' → now.files ≤ files
    → IsSince told ps start (record { outside = record { taken = now.outside.taken; told = told' }; files = files; out = now.out })
since_same told ps start now files told' h same later =
    let next : Moment = record { outside = record { taken = now.outside.taken; told = told' }; files = files; out = now.out } in
    subst (λ qs. IsSince told qs start next) (append-nil ps) (since_more told ps [] start now next h (Appends-nil now.outside.taken, same) later (omega arith))

-- ---- a file that is not read, later

pub halt_later : (told : ToldNames) (a b c : ℕ) → b ≤ c → (s : Settings) (text : List ℕ) (data_texts tables : List (List ℕ)) (halt : Halt) → IsHaltOrUnread told (Rose a b) s text data_texts tables halt → IsHaltOrUnread told (Rose a c) s text data_texts tables halt
halt_later told a b c later s text data_texts tables (End end) h = h
halt_later told a b c later s text data_texts tables (Table w) h = h
halt_later told a b c later s text data_texts tables (Unread u) h =
    let now = told_behind told (files_by (made_in s.language text data_texts tables)) u.name in
    (h.0, unread_of_less now now (λ is e. e) (Rose a b) (Rose a c) (rose_within a a b c (omega arith) later) u.fault h.1)

-- ---- a run by its parts

pub same_run : (run : Run) (halt : Halt) → run.executed.halt ≡ halt → record { inputs = run.inputs; executed = record { files = run.executed.files; shown = run.executed.shown; halt = halt } } ≡ run
same_run run halt is = ap by (sym is)
  where
    by : Halt → Run
    by h = record { inputs = run.inputs; executed = record { files = run.executed.files; shown = run.executed.shown; halt = h } }

pub goes_on_same : (now : Moment) (run made : Run) (halt : Halt) → run.executed.halt ≡ halt → made ≡ record { inputs = run.inputs; executed = record { files = run.executed.files; shown = run.executed.shown; halt = halt } } → GoesOn now now run made
goes_on_same now run made halt is made_is = subst (GoesOn now now run) (sym (made_is ∙ same_run run halt is)) (λ words told start r. r)

-- ---- from a run on

module _ (words : List (List ℕ)) (told : ToldNames) (start now : Moment) (s : Settings) (texts : List (List ℕ)) (e : Executed) (run : IsRun words told start now s texts e) where
  -- the files that were made last are written
  files_written : (later : Moment) → AllWritten (pieces_of e.files.items) now.outside later.outside → now.files ≤ later.files → now.out ≤ later.out
      → IsAt words told (files_by (made_in s.language run.text run.data_texts run.tables)) start later s texts run.text run.data_texts run.tables
  files_written later all files out = record {
    are_read = run.at.are_read;
    parts = run.at.parts;
    since = subst (λ ps. IsSince told ps start later) (sym run.files) (since_more told run.before (pieces_of e.files.items) start now later run.at.since all files out);
  }

  pub paused : (later : Moment) (w : Waiting) → e.halt ≡ Table w → AllWritten (pieces_of e.files.items) now.outside later.outside → now.files ≤ later.files → now.out ≤ later.out → IsPaused words told start later s texts (pieces_of e.shown.items) w
  paused later w is all files out = record {
    text = run.text;
    data_texts = run.data_texts;
    tables = run.tables;
    at = files_written later all files out;
    shown_is = run.shown;
    waiting = subst (IsHaltOrUnread told (Rose start.files now.files) s run.text run.data_texts run.tables) is run.halt;
  }

  done_is : run.before ++ (pieces_of e.files.items ++ pieces_of e.shown.items) ≡ (meaning_in s run.text run.data_texts run.tables).done
  done_is =
      sym (append_assoc run.before (pieces_of e.files.items) (pieces_of e.shown.items))
      ∙ ap (λ ps. ps ++ pieces_of e.shown.items) (sym run.files)
      ∙ ap (λ ps. files_by (made_in s.language run.text run.data_texts run.tables) ++ ps) (sym run.shown)

  pub whole : (later : Moment) → AllWritten (pieces_of e.files.items ++ pieces_of e.shown.items) now.outside later.outside → now.files ≤ later.files → now.out ≤ later.out → IsWhole words told start later s texts e.halt
  whole later all files out = record {
    text = run.text;
    data_texts = run.data_texts;
    tables = run.tables;
    at = record {
      are_read = run.at.are_read;
      parts = run.at.parts;
      since = subst (λ ps. IsSince told ps start later) done_is (since_more told run.before (pieces_of e.files.items ++ pieces_of e.shown.items) start now later run.at.since all files out);
    };
    is_halt = halt_later told start.files now.files later.files files s run.text run.data_texts run.tables e.halt run.halt;
  }

  module _ (later : Moment) (fault : PublishFault) (files : now.files ≤ later.files) (out : now.out ≤ later.out) (failed : HasFailed (Rose now.files later.files) (Rose now.out later.out) fault) where
    -- not all is written
    pub unwritten : EndsWriting {T = Unit {0}} (pieces_of e.files.items ++ pieces_of e.shown.items) now.outside later.outside (Err fault) → IsUnwritten words told start later fault
    unwritten ends = record {
      done = of_read words told s texts run.at.are_read (HasDone (λ done. EndsWriting {T = Unit {0}} done start.outside later.outside (Err fault)))
          (record {
            meaning = meaning_in s run.text run.data_texts run.tables;
            means = means_of s texts run.text run.data_texts run.tables run.at.parts;
            has = subst (λ ps. EndsWriting {T = Unit {0}} ps start.outside later.outside (Err fault)) done_is
                (ends_after fault run.before (pieces_of e.files.items ++ pieces_of e.shown.items) start.outside now.outside later.outside run.at.since.written ends);
          });
      failed = failed_within start.files now.files later.files later.files run.at.since.files_later (omega arith) start.out now.out later.out later.out run.at.since.out_later (omega arith) fault failed;
    }

    pub files_unwritten : EndsWriting {T = Unit {0}} (pieces_of e.files.items) now.outside later.outside (Err fault) → IsUnwritten words told start later fault
    files_unwritten ends = unwritten (ends_of_more fault (pieces_of e.files.items) (pieces_of e.shown.items) now.outside later.outside ends)

-- ---- from a pause on

module _ (words : List (List ℕ)) (told : ToldNames) (start now : Moment) (s : Settings) (texts : List (List ℕ)) (shown : List Piece) (w : Waiting) (h : IsPaused words told start now s texts shown w) (files : ℕ) (told' : ToldNames) (same : SameNames now.outside.told told') (later : now.files ≤ files) where
  abbrev next : Moment
  next = record { outside = record { taken = now.outside.taken; told = told' }; files = files; out = now.out }

  files_since : IsSince told (files_by (made_in s.language h.text h.data_texts h.tables)) start next
  files_since = since_same told (files_by (made_in s.language h.text h.data_texts h.tables)) start now files told' h.at.since same later

  -- there is no memory
  pub paused_unwritten : IsUnwritten words told start next NoMemory
  paused_unwritten = record {
    done = of_read words told s texts h.at.are_read (HasDone (λ done. EndsWriting {T = Unit {0}} done start.outside next.outside (Err NoMemory)))
        (record {
          meaning = meaning_in s h.text h.data_texts h.tables;
          means = means_of s texts h.text h.data_texts h.tables h.at.parts;
          has = some_of_more (files_by (made_in s.language h.text h.data_texts h.tables)) (shown_by s.display (made_in s.language h.text h.data_texts h.tables)) start.outside next.outside
              (all_some (files_by (made_in s.language h.text h.data_texts h.tables)) start.outside next.outside files_since.written);
        });
    failed = tt;
  }

  pub paused_stops : (fault : PublishFault) → fault ≡ NoMemory → IsUnwritten words told start next fault
  paused_stops fault is = subst (IsUnwritten words told start next) (sym is) paused_unwritten

  -- what is said of the name is told of it
  now_says : Says (told_behind told (files_by (made_in s.language h.text h.data_texts h.tables))) now.outside.told
  now_says = says_behind told (files_by (made_in s.language h.text h.data_texts h.tables)) start.outside now.outside h.at.since.says h.at.since.written

  -- the table's file is not read
  pub run_unread : (e : Executed) (u : UnreadFile) → e.halt ≡ Unread u → pieces_of e.files.items ≡ [] → pieces_of e.shown.items ≡ shown → u.name ≡ w.pending.pause.name → IsUnread (now.outside.told u.name) (Rose now.files files) u.fault → IsRun words told start next s texts e
  run_unread e u is none shows name unread = record {
    text = h.text;
    data_texts = h.data_texts;
    tables = h.tables;
    before = files_by (made_in s.language h.text h.data_texts h.tables);
    at = record { are_read = h.at.are_read; parts = h.at.parts; since = files_since };
    files = sym (ap (λ ps. files_by (made_in s.language h.text h.data_texts h.tables) ++ ps) none ∙ append-nil (files_by (made_in s.language h.text h.data_texts h.tables)));
    shown = h.shown_is ∙ sym shows;
    halt = subst (IsHaltOrUnread told (Rose start.files files) s h.text h.data_texts h.tables) (sym is) (
      h.waiting.wants ∙ ap Wanting (sym name),
      unread_of_less (told_behind told (files_by (made_in s.language h.text h.data_texts h.tables)) u.name) (now.outside.told u.name) (now_says u.name) (Rose now.files files) (Rose start.files files) (rose_within start.files now.files files files h.at.since.files_later (omega arith)) u.fault unread,
    );
  }

  -- it is read
  table_text : (table name : List ℕ) → name ≡ w.pending.pause.name → IsTextOf (now.outside.told name) table → IsTableText told s texts table
  table_text table name is text = record {
    name = name;
    in_turn = record {
      meaning = meaning_in s h.text h.data_texts h.tables;
      means = means_of s texts h.text h.data_texts h.tables h.at.parts;
      wants = h.waiting.wants ∙ ap Wanting (sym is);
      has = text_of_less (told_behind told (files_by (made_in s.language h.text h.data_texts h.tables)) name) (now.outside.told name) (now_says name) table text;
    };
  }

  fresh : (rose : Type 0) (tables : List (List ℕ)) (halt : Halt) → IsHalt s h.text h.data_texts tables halt → IsHaltOrUnread told rose s h.text h.data_texts tables halt
  fresh rose tables (End end) k = k
  fresh rose tables (Table more) k = k
  fresh rose tables (Unread u) k = absurd k

  made_is : files_by (made_in s.language h.text h.data_texts h.tables) ≡ file_pieces h.waiting.files
  made_is = ap (λ (l : Language). files_by (made_in l h.text h.data_texts h.tables)) h.waiting.language ∙ ap files_by h.waiting.made

pub run_on : (words : List (List ℕ)) (told : ToldNames) (start now : Moment) (inputs : Inputs) (shown : List Piece) (w : Waiting) (h : IsPaused words told start now inputs.settings (texts_in inputs) shown w) (files : ℕ) (told' : ToldNames) (same : SameNames now.outside.told told') (later : now.files ≤ files)
    (more : Inputs) (e : Executed) (table name : List ℕ) → name ≡ w.pending.pause.name → IsTextOf (now.outside.told name) table → IsTableExecuted inputs w table more e
    → IsRun words told start (record { outside = record { taken = now.outside.taken; told = told' }; files = files; out = now.out }) more.settings (texts_in more) e
run_on words told start now inputs shown w h files told' same later more e table name is text x =
    let s : Settings = inputs.settings in
    let texts : List (List ℕ) = texts_in inputs in
    let next : Moment = record { outside = record { taken = now.outside.taken; told = told' }; files = files; out = now.out } in
    let made = x.execution h.text h.data_texts h.tables h.waiting.files h.waiting.language h.waiting.made h.waiting.pending in
    subst (λ (t : Settings). IsRun words told start next t (texts_in more) e) (sym x.settings)
    (record {
      text = h.text;
      data_texts = h.data_texts;
      tables = h.tables ++ table ∷ [];
      before = file_pieces h.waiting.files;
      at = record {
        are_read = read_push words told s texts h.at.are_read (texts_in more) table x.texts (table_text words told start now s texts shown w h files told' same later table name is text);
        parts = parts_push s texts h.text h.data_texts h.tables h.at.parts (texts_in more) table x.texts;
        since = subst (λ ps. IsSince told ps start next) (made_is words told start now s texts shown w h files told' same later) (files_since words told start now s texts shown w h files told' same later);
      };
      files = made.files;
      shown = made.shown;
      halt = fresh words told start now s texts shown w h files told' same later (Rose start.files files) (h.tables ++ table ∷ []) e.halt made.halt;
    })
