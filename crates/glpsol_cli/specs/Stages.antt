-- What the stages of a run say: what is executed and found, why nothing is found, how the writing ends, and what is said of an
-- answer by the settings and the texts that were read.
use Rattle.std.specs.Prelude.{◌≡◌, ◌<◌, ◌≤◌, ℕ, suc, true, false, List, [], ◌∷◌, ◌++◌, length, slice_get, take, drop, Result, Ok, Err, is_some, Some, None, IfSome, map, string_bytes}
use Rattle.std.specs.declared.option.Option.{Option}
use Rattle.rational.specs.Rational.{Rational}
use Rattle.milp.specs.Problem.{Problem}
use Rattle.verdicts.specs.Certificate.{Certificate}
use Rattle.verdicts.specs.Certificate as kind
use Rattle.verdicts.specs.Proves.{Proves}
use Rattle.partial_certificate.specs.Partial.{Partial}
use Rattle.partial_certificate.specs.Shown.{Passes}
use Rattle.partial_certificate.specs.Text.{partial_text}
use Rattle.gmpl_solution.specs.Solution.{Duals}
use Rattle.gmpl_generate.specs.declared.fault.ModelFault.{ModelFault}
use Rattle.gmpl_generate.specs.Running.{File as TableFile, files_of}
use Rattle.gmpl_reader.specs.MathProg.{Declares, IsPending, IsRest, ending as ending_of_math_prog, making as making_of_math_prog}
use Rattle.gmpl_reader.specs.declared.read.Reading.{Reading}
use Rattle.gmpl_reader.specs.declared.read.ReadingEnd.{ReadingEnd}
use Rattle.gmpl_reader.specs.declared.read.ReadingEnd.TheVariants as reading_end
use Rattle.branch_search.specs.Plain.{NoneInteger, IsPlainCertificate}
use Rattle.exact_ranges.specs.Faults.{IsFault as IsRangeFault, IsNotByPivots as IsRangeNotByPivots}
use Rattle.exact_ranges.specs.Ranges.{AllRanges}
use Rattle.exact_ranges.specs.Text.{ranges_text}
use Rattle.exact_ranges.specs.ShownBest.{best_point, best_weights}
use Rattle.exact_ranges.specs.declared.fault.RangeFault.{RangeFault}
use Rattle.stopped_search.specs.declared.fault.Unsolved.{Unsolved}
use Rattle.cut_search.specs.Searched.{IsUnsolved as IsSearchUnsolved}
use Rattle.branch_search.specs.declared.whole_fault.VerdictFault.{VerdictFault}
use Rattle.branch_search.specs.declared.whole_fault.VerdictFault.TheVariants.{NoFit as SearchNoFit, PivotLimit, SplitLimit, NoMemory as SearchNoMemory}
use Rattle.infeasible_subset.specs.Faults.{IsFault as IsSubsetFault}
use Rattle.infeasible_subset.specs.declared.witness.Subset.{Subset as FoundSubset}
use Rattle.infeasible_subset.specs.declared.fault.SubsetFault.{SubsetFault}
use Rattle.infeasible_subset.specs.declared.fault.SubsetFault.TheVariants.{NoFit as SubsetNoFit, PivotLimit as SubsetPivotLimit, NoMemory as SubsetNoMemory}
use Rattle.cert_check.specs.Outcome.{Acceptance as Accepting, outcome, trials}
use Rattle.outside.specs.Told.{Lacks, Has, AppendsPrefix}
use Rattle.outside.specs.declared.store.LoadFault.{LoadFault}
use Rattle.outside.specs.declared.store.LoadFault.TheVariants.{Missing as LoadMissing, Open, Read, TooLong as LoadTooLong, NoMemory as LoadNoMemory}
use Rattle.command_line.specs.Meaning.{settings_of}
use Rattle.command_line.specs.declared.settings.Language.TheVariants.{MathProg}
use Rattle.command_line.specs.declared.settings.Settings.{Settings}
use Rattle.command_line.specs.declared.settings.Task.{Task}
use Rattle.command_line.specs.declared.settings.WordsFault.{WordsFault}
use Rattle.command_line.specs.declared.settings.WordsFault.TheVariants.{Usage as WordsUsage, NoMemory as WordsNoMemory}
use Rattle.solution_writer.specs.Report.{IsReportable}
use Rattle.outside.specs.Causes.{Rose}
use Rattle.glpsol_cli.specs.Asked.{ToldNames, AreTexts, AreThere, IsInTurn, Solves, Translates, certificate_file, sources_of, ranges_file, splits_rows, uses_cuts, wants_linear, wants_ranges, wants_subset}
use Rattle.glpsol_cli.specs.Pieces.{Piece, Outside, AllWritten, SameNames, Says, WrittenUpTo, SomeWritten, IsFileInPart, IsWritten, IsWrittenInPart, told_behind}
use Rattle.glpsol_cli.specs.Meaning.{Behind, Declared, Faulty, Wanting, IsAsked, Meaning, HasDone, asked_of, behind_of, displayed, ends_in, file_pieces, files_behind, files_by, found_pieces, lacks_subset, made_in, meaning_in, meaning_of, nothing_behind, saved_in, shown_by}
use Rattle.glpsol_cli.specs.Texts.{AreTables, OfTexts, OfPieces}
use Rattle.glpsol_cli.specs.Written.{ThenLine, extent_of, line_of}
use Rattle.glpsol_cli.specs.Cause.{AreRanges, HasSubset, IsByWeights, IsNotLinear, IsSubsetOf, reached_of, OfCertificate, IsAccepted, IsRefusedAt, IsCheckOverflow, IsNoCertificate, IsOverflow, IsUndecided, RoseAt}
use Rattle.glpsol_cli.specs.declared.answer.Answer.{Answer}
use Rattle.glpsol_cli.specs.declared.answer.Answer.TheVariants.{Optimal, Ranged, Usage, Missing, OpenFault, ReadFault, WriteFault, TooLong, FaultBehindSolve, Unranged, BadCertificate, NotLinear, Overflow, Undecided, Refused, NoMemory}
use Rattle.glpsol_cli.specs.declared.answer.Leftover.{Leftover}
use Rattle.glpsol_cli.specs.declared.answer.Leftover.TheVariants.{Unasked, Unmade, Saved, Unsaved}
use Rattle.glpsol_cli.specs.declared.answer.Limit.TheVariants.{Pivots, Splits, SubsetPivots}
use Rattle.glpsol_cli.specs.declared.answer.OverflowSite.TheVariants.{AtNode, InPart, InSubset}
use Rattle.glpsol_cli.specs.declared.answer.Reached.{Reached}
use Rattle.glpsol_cli.specs.declared.answer.Reached.TheVariants.{Nothing, Executed, Size as SizeReached, Shown as ShownReached, Acceptance as AcceptanceReached, Verdict as VerdictReached, Subset as SubsetReached, Ranges as RangesReached}
use Rattle.glpsol_cli.specs.declared.answer.TextFault.TheVariants as text_fault
use Rattle.glpsol_cli.specs.declared.answer.Target.TheVariants.{Out}
use Rattle.glpsol_cli.specs.declared.inputs.Inputs.{Inputs}
use Rattle.glpsol_cli.specs.declared.execution.Executed.{Executed as ExecutedHeld}
use Rattle.glpsol_cli.specs.declared.execution.ExecutionEnd.{ExecutionEnd}
use Rattle.glpsol_cli.specs.declared.execution.ExecutionEnd.TheVariants.{Problem as AtProblem, Fault as AtFault}
use Rattle.glpsol_cli.specs.declared.execution.Halt.{Halt}
use Rattle.glpsol_cli.specs.declared.execution.Halt.TheVariants as halts
use Rattle.glpsol_cli.specs.declared.execution.Waiting.{Waiting}
use Rattle.glpsol_cli.specs.declared.execution.Later.{Later}
use Rattle.glpsol_cli.specs.declared.behind.Behind.{Behind as BehindHeld}
use Rattle.glpsol_cli.specs.declared.found.Finding.{Finding}
use Rattle.glpsol_cli.specs.declared.found.Finding.TheVariants.{Size, Acceptance, Verdict as VerdictFound, Subset as SubsetFound}
use Rattle.glpsol_cli.specs.declared.stop.Stop.{Stop}
use Rattle.glpsol_cli.specs.declared.stop.Stop.TheVariants.{Words, File, NoMemory as StopNoMemory}
use Rattle.glpsol_cli.specs.declared.stop.Unfound.{Unfound}
use Rattle.glpsol_cli.specs.declared.stop.Unfound.TheVariants.{Solve, Check, Subset, NotLinear as IsIntegral}
use Rattle.glpsol_cli.specs.declared.stop.Unread.{Unread}
use Rattle.glpsol_cli.specs.declared.stop.CheckStop.{CheckStop}
use Rattle.glpsol_cli.specs.declared.stop.CheckStop.TheVariants.{BadText, Refused as CheckRefused, NoFit as CheckNoFit, NoMemory as CheckNoMemory}
use Rattle.glpsol_cli.specs.declared.publish.PublishFault.{PublishFault}
use Rattle.glpsol_cli.specs.declared.publish.PublishFault.TheVariants.{Write, CutOutput, NoMemory as PublishNoMemory}
use Rattle.glpsol_cli.specs.declared.publish.Piece.{Piece as PieceHeld}
use Rattle.glpsol_cli.specs.declared.tables.Run.{Run as RunHeld}

-- ---- what is read

-- the texts of the files, in the order in which they are read
abbrev pub texts_in : Inputs → List (List ℕ)
texts_in inputs = map (λ text. text.items) inputs.texts.items

-- the inputs are what the words ask for
pub record AreInputs (words : List (List ℕ)) (told : ToldNames) (inputs : Inputs) : Type 0 where
  pub asks : settings_of words ≡ Some inputs.settings
  pub read : AreTexts told (sources_of inputs.settings) (texts_in inputs)

-- what a piece is to the definitions
abbrev pub piece_of : PieceHeld → Piece
piece_of p = record { target = p.target; text = p.text.items }

abbrev pub pieces_of : List PieceHeld → List Piece
pieces_of ps = map piece_of ps

-- ---- what is executed

-- what is kept of a text is what the statements behind `solve` need
pub record IsLater (s : Settings) (text : List ℕ) (data_texts tables : List (List ℕ)) (p : Problem) (later : Later) : Type 0 where
  pub language : s.language ≡ MathProg
  pub problem : Problem
  pub declares : ending_of_math_prog text data_texts tables ≡ Declares problem
  pub rows : problem.rows ≡ p.rows
  pub files : List TableFile
  pub earlier : making_of_math_prog text data_texts tables ≡ Some (record { printed = string_bytes later.printed; files = files })
  pub rest : IsRest text data_texts tables later.rest

-- nothing is kept only where no statement stands behind `solve`
abbrev pub IsKept : Settings → List ℕ → List (List ℕ) → List (List ℕ) → Problem → Option Later → Type 0
IsKept s text data_texts tables p None = (x : List Rational) (duals : Duals) → (meaning_in s text data_texts tables).behind x duals ≡ nothing_behind
IsKept s text data_texts tables p (Some later) = IsLater s text data_texts tables p later

-- the execution ends so
abbrev pub IsEnd : Settings → List ℕ → List (List ℕ) → List (List ℕ) → ExecutionEnd → Type 0
IsEnd s text data_texts tables (AtProblem p later) = (ends_in s s.language text data_texts tables ≡ Declared p) × IsKept s text data_texts tables p later
IsEnd s text data_texts tables (AtFault fault) = ends_in s s.language text data_texts tables ≡ Faulty fault

-- it waits for the text of a table
pub record IsWaiting (s : Settings) (text : List ℕ) (data_texts tables : List (List ℕ)) (w : Waiting) : Type 0 where
  pub wants : ends_in s s.language text data_texts tables ≡ Wanting w.pending.pause.name
  pub language : s.language ≡ MathProg
  pub files : List TableFile
  pub made : making_of_math_prog text data_texts tables ≡ Some (record { printed = string_bytes w.printed; files = files })
  pub pending : IsPending text data_texts tables w.pending

-- it halts so; no table's file is found unread yet
abbrev pub IsHalt : Settings → List ℕ → List (List ℕ) → List (List ℕ) → Halt → Type 0
IsHalt s text data_texts tables (halts.End end) = IsEnd s text data_texts tables end
IsHalt s text data_texts tables (halts.Table w) = IsWaiting s text data_texts tables w
IsHalt s text data_texts tables (halts.Unread u) = ⊥

-- the model's text with those of its data and of its tables is executed so, where these files were made before
pub record IsExecutionOf (before : List Piece) (s : Settings) (text : List ℕ) (data_texts tables : List (List ℕ)) (e : ExecutedHeld) : Type 0 where
  pub files : files_by (made_in s.language text data_texts tables) ≡ before ++ pieces_of e.files.items
  pub shown : shown_by s.display (made_in s.language text data_texts tables) ≡ pieces_of e.shown.items
  pub halt : IsHalt s text data_texts tables e.halt

-- all texts, by what they are
pub record AreParts (s : Settings) (texts : List (List ℕ)) (text : List ℕ) (data_texts tables : List (List ℕ)) : Type 0 where
  pub others : List (List ℕ)
  pub are : texts ≡ text ∷ others
  pub enough : files_behind s ≤ length others
  pub data_are : take (length s.data_files) others ≡ data_texts
  pub tables_are : drop (files_behind s) others ≡ tables

-- the texts that are read first are executed so, without one of a table
pub record IsExecution (s : Settings) (texts : List (List ℕ)) (e : ExecutedHeld) : Type 0 where
  pub text : List ℕ
  pub others : List (List ℕ)
  pub are : texts ≡ text ∷ others
  pub execution : IsExecutionOf [] s text (take (length s.data_files) others) [] e

pub record IsEndIn (s : Settings) (texts : List (List ℕ)) (end : ExecutionEnd) : Type 0 where
  pub text : List ℕ
  pub data_texts : List (List ℕ)
  pub tables : List (List ℕ)
  pub parts : AreParts s texts text data_texts tables
  pub is_end : IsEnd s text data_texts tables end

abbrev pub IsEndOf : Settings → List (List ℕ) → Halt → Type 0
IsEndOf s texts (halts.End end) = IsEndIn s texts end
IsEndOf s texts (halts.Table w) = ⊥
IsEndOf s texts (halts.Unread u) = Unit {0}

-- this is the problem that is asked about, and what the statements behind `solve` need is kept
pub record IsSubject (s : Settings) (texts : List (List ℕ)) (p : Problem) (later : Option Later) : Type 0 where
  pub text : List ℕ
  pub data_texts : List (List ℕ)
  pub tables : List (List ℕ)
  pub parts : AreParts s texts text data_texts tables
  pub means : meaning_of s texts ≡ Some (meaning_in s text data_texts tables)
  pub declares : ends_in s s.language text data_texts tables ≡ Declared p
  pub kept : IsKept s text data_texts tables p later

-- the end of an execution is that of a reading of a MathProg text
abbrev pub IsOfReadingEnd : Settings → List ℕ → ReadingEnd → Halt → Type 0
IsOfReadingEnd s printed (reading_end.Problem p rest) (halts.End (AtProblem q None)) = ⊥
IsOfReadingEnd s printed (reading_end.Problem p rest) (halts.End (AtProblem q (Some later))) = (q ≡ asked_of s p) × (string_bytes later.printed ≡ printed) × (later.rest ≡ rest)
IsOfReadingEnd s printed (reading_end.Problem p rest) (halts.End (AtFault fault)) = ⊥
IsOfReadingEnd s printed (reading_end.Problem p rest) (halts.Table w) = ⊥
IsOfReadingEnd s printed (reading_end.Problem p rest) (halts.Unread u) = ⊥
IsOfReadingEnd s printed (reading_end.Table pending) (halts.End end) = ⊥
IsOfReadingEnd s printed (reading_end.Table pending) (halts.Table w) = (string_bytes w.printed ≡ printed) × (w.pending ≡ pending)
IsOfReadingEnd s printed (reading_end.Table pending) (halts.Unread u) = ⊥
IsOfReadingEnd s printed (reading_end.Fault fault) (halts.End (AtProblem q later)) = ⊥
IsOfReadingEnd s printed (reading_end.Fault fault) (halts.End (AtFault other)) = other ≡ text_fault.Model fault
IsOfReadingEnd s printed (reading_end.Fault fault) (halts.Table w) = ⊥
IsOfReadingEnd s printed (reading_end.Fault fault) (halts.Unread u) = ⊥

pub record IsOfReading (s : Settings) (r : Reading) (e : ExecutedHeld) : Type 0 where
  pub files : pieces_of e.files.items ≡ file_pieces (files_of r.files.items)
  pub shown : pieces_of e.shown.items ≡ displayed s.display (string_bytes r.printed)
  pub halt : IsOfReadingEnd s (string_bytes r.printed) r.end e.halt

-- ---- what is found

-- where ranges are wanted, the problem has no integer column, and the certificate has one leaf
abbrev pub IsRangeable : Problem → Task → Certificate → Type 0
IsRangeable p task c = wants_ranges task ≡ true → NoneInteger p.columns × IsPlainCertificate p c

abbrev pub IsFinding : Problem → Settings → List (List ℕ) → Finding → Type 0
IsFinding p s texts Size = Translates s
IsFinding p s texts (Acceptance c) = OfCertificate (IsAccepted c) s texts
IsFinding p s texts (VerdictFound c) = Solves s × Proves p c × (outcome (trials p c) ≡ Accepting) × (lacks_subset (wants_subset s.task) c.verdict ≡ false) × IsRangeable p s.task c
IsFinding p s texts (SubsetFound c w) = HasSubset c w s texts

-- the certificate proves that no point is feasible, by the weights of the subset
abbrev pub IsSubsetSolution : Problem → Certificate → FoundSubset → Type 0
IsSubsetSolution p c w = Proves p c × (outcome (trials p c) ≡ Accepting) × (c.verdict ≡ kind.Infeasible) × IsSubsetOf p w × IsByWeights c w

abbrev pub IsSubsetFinding : Problem → Finding → Type 0
IsSubsetFinding p Size = ⊥
IsSubsetFinding p (Acceptance c) = ⊥
IsSubsetFinding p (VerdictFound c) = ⊥
IsSubsetFinding p (SubsetFound c w) = IsSubsetSolution p c w

-- what is found of a problem that is to be solved, with a subset, if one is wanted, where no point is feasible
abbrev pub IsSolution : Problem → Task → Finding → Type 0
IsSolution p task Size = ⊥
IsSolution p task (Acceptance c) = ⊥
IsSolution p task (VerdictFound c) = Proves p c × (outcome (trials p c) ≡ Accepting) × (lacks_subset (wants_subset task) c.verdict ≡ false) × IsRangeable p task c
IsSolution p task (SubsetFound c w) = IsSubsetSolution p c w × (wants_subset task ≡ true)

-- what a finding is as a part of an answer
abbrev pub reached_by : Finding → Reached
reached_by Size = SizeReached
reached_by (Acceptance c) = AcceptanceReached c
reached_by (VerdictFound c) = VerdictReached c
reached_by (SubsetFound c w) = SubsetReached c w

-- ---- why nothing is found

-- why a certificate with this text is not accepted
abbrev pub IsCheckStop : Problem → List ℕ → CheckStop → Type 0
IsCheckStop p bytes (BadText fault) = IsNoCertificate fault p bytes
IsCheckStop p bytes (CheckRefused part) = IsRefusedAt part p bytes
IsCheckStop p bytes (CheckNoFit f) = IsCheckOverflow f.part f.fault p bytes
IsCheckStop p bytes CheckNoMemory = Unit {0}

-- P of the text behind the model's and so many others
pub record OfNext (P : List ℕ → Type 0) (count : ℕ) (texts : List (List ℕ)) : Type 0 where
  pub bytes : List ℕ
  pub stands : slice_get texts (suc count) ≡ Some bytes
  pub holds : P bytes

-- a certificate that the checker accepts proves the problem infeasible
pub record IsRefuted (p : Problem) : Type 0 where
  pub certificate : Certificate
  pub infeasible : certificate.verdict ≡ kind.Infeasible
  pub proves : Proves p certificate
  pub accepted : outcome (trials p certificate) ≡ Accepting

-- why no solution of a problem is found, or no subset that is wanted
abbrev pub IsUnsolved : Problem → Settings → Unfound → Type 0
IsUnsolved p s (Solve u) = IsSearchUnsolved (uses_cuts s.task) (splits_rows s.task) p s.split_limit s.pivot_limit u × IfSome u.shown (Passes p)
IsUnsolved p s (Check stop) = ⊥
IsUnsolved p s (Subset fault) = (wants_subset s.task ≡ true) × IsRefuted p × IsSubsetFault p s.pivot_limit fault
IsUnsolved p s IsIntegral = (wants_linear s.task ≡ true) × ¬ (NoneInteger p.columns)

-- a search finds no verdict of the problem that is asked about, and all tests hold of what it has shown
pub record OfUnsolved (u : Unsolved) (s : Settings) (texts : List (List ℕ)) : Type 0 where
  pub problem : Problem
  pub asked : IsAsked s texts problem
  pub solves : Solves s
  pub unsolved : IsSearchUnsolved (uses_cuts s.task) (splits_rows s.task) problem s.split_limit s.pivot_limit u
  pub passes : IfSome u.shown (Passes problem)

-- why nothing is found
abbrev pub IsUnfound : Unfound → Settings → List (List ℕ) → Type 0
IsUnfound (Solve u) s texts = OfUnsolved u s texts
IsUnfound (Check (BadText fault)) s texts = OfCertificate (IsNoCertificate fault) s texts
IsUnfound (Check (CheckRefused part)) s texts = OfCertificate (IsRefusedAt part) s texts
IsUnfound (Check (CheckNoFit f)) s texts = OfCertificate (IsCheckOverflow f.part f.fault) s texts
IsUnfound (Check CheckNoMemory) s texts = Unit {0}
IsUnfound (Subset (SubsetNoFit stuck)) s texts = IsOverflow (InSubset stuck.members) stuck.fault s texts
IsUnfound (Subset (SubsetPivotLimit long)) s texts = IsUndecided (SubsetPivots long.members long.bases) s texts
IsUnfound (Subset SubsetNoMemory) s texts = Unit {0}
IsUnfound IsIntegral s texts = IsNotLinear s texts

-- why the file of a name is not read
abbrev pub IsUnread : Option (Option (List ℕ)) → Type 0 → LoadFault → Type 0
IsUnread told files_rose LoadMissing = (text : List ℕ) → Has told text → ⊥
IsUnread told files_rose Open = files_rose
IsUnread told files_rose Read = (Lacks told → ⊥) × files_rose
IsUnread told files_rose LoadTooLong = (Lacks told → ⊥) × ((text : List ℕ) → Has told text → 67108864 < length text)
IsUnread told files_rose LoadNoMemory = Unit {0}

abbrev pub IsWordsFault : List (List ℕ) → WordsFault → Type 0
IsWordsFault words WordsUsage = settings_of words ≡ None
IsWordsFault words WordsNoMemory = Unit {0}

-- the stop tells this name and this fault
abbrev pub IsUnreadStop : List ℕ → LoadFault → Stop → Type 0
IsUnreadStop name fault (File u) = (u.name ≡ name) × (u.fault ≡ fault)
IsUnreadStop name fault (Words other) = ⊥
IsUnreadStop name fault StopNoMemory = Unit {0}

-- the file of this name is not read
abbrev pub IsStopAt : List ℕ → ToldNames → Type 0 → Stop → Type 0
IsStopAt name told files_rose (File u) = (u.name ≡ name) × IsUnread (told u.name) files_rose u.fault
IsStopAt name told files_rose (Words fault) = ⊥
IsStopAt name told files_rose StopNoMemory = Unit {0}

-- the stop at a source; where there is no file, for want of memory alone
abbrev pub IsStopFrom : Option (List ℕ) → ToldNames → Type 0 → Stop → Type 0
IsStopFrom (Some name) told files_rose stop = IsStopAt name told files_rose stop
IsStopFrom None told files_rose (Words fault) = ⊥
IsStopFrom None told files_rose (File u) = ⊥
IsStopFrom None told files_rose StopNoMemory = Unit {0}

-- a file among these sources is not read, and all before it are there
pub record IsUnreadAmong (sources : List (Option (List ℕ))) (told : ToldNames) (files_rose : Type 0) (u : Unread) : Type 0 where
  pub before : List (Option (List ℕ))
  pub after : List (Option (List ℕ))
  pub is : sources ≡ before ++ Some u.name ∷ after
  pub there : AreThere told before
  pub unread : IsUnread (told u.name) files_rose u.fault

abbrev pub IsStopAmong : List (Option (List ℕ)) → ToldNames → Type 0 → Stop → Type 0
IsStopAmong sources told files_rose (File u) = IsUnreadAmong sources told files_rose u
IsStopAmong sources told files_rose (Words fault) = ⊥
IsStopAmong sources told files_rose StopNoMemory = Unit {0}

-- the file is in turn, and is not read
abbrev pub IsUnreadIn : List (List ℕ) → ToldNames → Type 0 → Unread → Type 0
IsUnreadIn words told files_rose u = IsInTurn words told u.name × IsUnread (told u.name) files_rose u.fault

-- the words are no command
abbrev pub IsWordsStop : List (List ℕ) → Stop → Type 0
IsWordsStop words (Words fault) = IsWordsFault words fault
IsWordsStop words (File u) = ⊥
IsWordsStop words StopNoMemory = Unit {0}

abbrev pub IsStop : List (List ℕ) → ToldNames → Type 0 → Stop → Type 0
IsStop words told files_rose (Words fault) = IsWordsFault words fault
IsStop words told files_rose (File u) = IsUnreadIn words told files_rose u
IsStop words told files_rose StopNoMemory = Unit {0}

-- ---- the answers of a stop

-- of a file that is not read once this was reached
abbrev pub unread_answer : Reached → List ℕ → LoadFault → Answer
unread_answer reached name LoadMissing = Missing name reached
unread_answer reached name Open = OpenFault name reached
unread_answer reached name Read = ReadFault name reached
unread_answer reached name LoadTooLong = TooLong name reached
unread_answer reached name LoadNoMemory = NoMemory reached

-- what is left where a search has shown this, or memory was wanting for it
abbrev pub IsLeaving : Option (List ℕ) → Option Partial → Leftover → Type 0
IsLeaving file shown Unasked = is_some file ≡ false
IsLeaving file shown Unmade = is_some file ≡ true
IsLeaving file shown (Saved c) = (is_some file ≡ true) × (shown ≡ Some c)
IsLeaving file shown (Unsaved c) = (is_some file ≡ true) × (shown ≡ Some c)

-- of a search without a verdict
abbrev pub IsUnsolvedAnswer : Option (List ℕ) → VerdictFault → Option Partial → Answer → Type 0
IsUnsolvedAnswer file (SearchNoFit wanted site) shown answer = answer ≡ Overflow (AtNode wanted site.node) site.fault
IsUnsolvedAnswer file (PivotLimit wanted bases board) shown answer = (left : Leftover) × IsLeaving file shown left × (answer ≡ Undecided (Pivots wanted bases board left))
IsUnsolvedAnswer file (SplitLimit wanted board) shown answer = (left : Leftover) × IsLeaving file shown left × (answer ≡ Undecided (Splits wanted board left))
IsUnsolvedAnswer file SearchNoMemory shown answer = answer ≡ NoMemory Executed

-- what is left where this was reached
abbrev pub saved_pieces_of : Option (List ℕ) → Reached → List Piece
saved_pieces_of file Nothing = []
saved_pieces_of file Executed = []
saved_pieces_of file SizeReached = []
saved_pieces_of file (ShownReached c) = saved_in file (partial_text c)
saved_pieces_of file (AcceptanceReached c) = []
saved_pieces_of file (VerdictReached c) = []
saved_pieces_of file (SubsetReached c w) = []
saved_pieces_of file (RangesReached c r) = []

abbrev pub left_pieces : Task → Reached → List Piece
left_pieces task reached = saved_pieces_of (certificate_file task) reached

abbrev pub check_answer : CheckStop → Answer
check_answer (BadText fault) = BadCertificate fault
check_answer (CheckRefused part) = Refused part
check_answer (CheckNoFit f) = Overflow (InPart f.part) f.fault
check_answer CheckNoMemory = NoMemory Executed

abbrev pub subset_answer : SubsetFault → Answer
subset_answer (SubsetNoFit stuck) = Overflow (InSubset stuck.members) stuck.fault
subset_answer (SubsetPivotLimit long) = Undecided (SubsetPivots long.members long.bases)
subset_answer SubsetNoMemory = NoMemory Executed

abbrev pub words_answer : WordsFault → Answer
words_answer WordsUsage = Usage
words_answer WordsNoMemory = NoMemory Nothing

abbrev pub stop_answer : Stop → Answer
stop_answer (Words fault) = words_answer fault
stop_answer (File u) = unread_answer Nothing u.name u.fault
stop_answer StopNoMemory = NoMemory Nothing

-- ---- writing

-- the report of what is found has what it shows
abbrev pub IsShown : Task → Problem → Finding → Type 0
IsShown task p Size = Unit {0}
IsShown task p (Acceptance c) = Proves p c
IsShown task p (VerdictFound c) = IsReportable p c × (lacks_subset (wants_subset task) c.verdict ≡ false)
IsShown task p (SubsetFound c w) = c.verdict ≡ kind.Infeasible

-- how the writing of pieces ends
abbrev pub EndsWriting : {T : Type 0} → List Piece → Outside → Outside → Result T PublishFault → Type 0
EndsWriting ps old new (Ok u) = AllWritten ps old new
EndsWriting ps old new (Err (Write target)) = WrittenUpTo target ps old new
EndsWriting ps old new (Err CutOutput) = WrittenUpTo Out ps old new
EndsWriting ps old new (Err PublishNoMemory) = SomeWritten ps old new

-- how the writing of one piece ends
abbrev pub EndsPiece : {T : Type 0} → Piece → Outside → Outside → Result T PublishFault → Type 0
EndsPiece p old new (Ok u) = IsWritten p.target p.text old new
EndsPiece p old new (Err (Write target)) = (p.target ≡ target) × IsWrittenInPart p.target p.text old new
EndsPiece p old new (Err CutOutput) = (p.target ≡ Out) × IsWrittenInPart p.target p.text old new
EndsPiece p old new (Err PublishNoMemory) = IsFileInPart p.target p.text old new

-- what can't be written has failed
abbrev pub HasFailed : Type 0 → Type 0 → PublishFault → Type 0
HasFailed files_rose out_rose (Write target) = RoseAt target files_rose out_rose
HasFailed files_rose out_rose CutOutput = Unit {0}
HasFailed files_rose out_rose PublishNoMemory = Unit {0}

-- the pieces of what is found are written so
pub record IsPublished {T : Type 0} (task : Task) (p : Problem) (finding : Finding) (old new : Outside) (result : Result T PublishFault) : Type 0 where
  pub pieces : List Piece
  pub are : found_pieces task p (reached_by finding) ≡ Some pieces
  pub ends : EndsWriting pieces old new result

-- the answer where not all is written of what was reached
abbrev pub unwritten_answer : Reached → PublishFault → Answer
unwritten_answer reached (Write target) = WriteFault target reached
unwritten_answer reached CutOutput = NoMemory reached
unwritten_answer reached PublishNoMemory = NoMemory reached

-- what the output has taken behind it: the line of the answer, or a part of it; behind a write on the output that failed nothing
abbrev pub TellsBehind : PublishFault → Option (List ℕ) → Option (List ℕ) → Answer → Type 0
TellsBehind (Write target) old new answer = AppendsPrefix old new (line_of answer)
TellsBehind CutOutput old new answer = new ≡ old
TellsBehind PublishNoMemory old new answer = AppendsPrefix old new (line_of answer)

-- ---- the statements behind `solve`

-- what they come to, to the definitions
abbrev pub behind_in : BehindHeld → Behind
behind_in b = record { pieces = pieces_of b.pieces.items; fault = b.fault }

-- how a run ends at a best point, behind all statements: no ranges are wanted; or they are found and written, or not found, or not
-- written
pub data IsEndAtBest (p : Problem) (s : Settings) (c : Certificate) (files_rose out_rose : Type 0) (answer : Answer) : Type 0 where
  without_ranges : wants_ranges s.task ≡ false → answer ≡ Optimal c → IsEndAtBest p s c files_rose out_rose answer
  ranged : (r : AllRanges) → wants_ranges s.task ≡ true → AreRanges p c r → answer ≡ Ranged c r → IsEndAtBest p s c files_rose out_rose answer
  unranged : (fault : RangeFault) → wants_ranges s.task ≡ true → IsRangeFault p (best_point c) (best_weights c) s.pivot_limit fault → (s.pivot_limit ≡ 0 → IsRangeNotByPivots fault) → answer ≡ Unranged fault c → IsEndAtBest p s c files_rose out_rose answer
  ranges_unwritten : (r : AllRanges) (fault : PublishFault) → wants_ranges s.task ≡ true → AreRanges p c r → HasFailed files_rose out_rose fault → answer ≡ unwritten_answer (RangesReached c r) fault → IsEndAtBest p s c files_rose out_rose answer

-- how a run ends once ranges are found: they are written, or can't be
pub data IsEndSaving (c : Certificate) (r : AllRanges) (files_rose out_rose : Type 0) (answer : Answer) : Type 0 where
  saved : answer ≡ Ranged c r → IsEndSaving c r files_rose out_rose answer
  unsaved : (fault : PublishFault) → HasFailed files_rose out_rose fault → answer ≡ unwritten_answer (RangesReached c r) fault → IsEndSaving c r files_rose out_rose answer

-- how a run ends behind `solve`: at the best point, or at a fault of a statement, or what is printed there can't be written
pub data IsEndBehind (p : Problem) (s : Settings) (fault : Option ModelFault) (c : Certificate) (files_rose out_rose : Type 0) (answer : Answer) : Type 0 where
  at_best : fault ≡ None → IsEndAtBest p s c files_rose out_rose answer → IsEndBehind p s fault c files_rose out_rose answer
  at_fault : (e : ModelFault) → fault ≡ Some e → answer ≡ FaultBehindSolve e c → IsEndBehind p s fault c files_rose out_rose answer
  unwritten : (f : PublishFault) → HasFailed files_rose out_rose f → answer ≡ unwritten_answer (VerdictReached c) f → IsEndBehind p s fault c files_rose out_rose answer

-- what is written of ranges once this was reached
abbrev pub range_pieces : Task → Reached → List Piece
range_pieces task Nothing = []
range_pieces task Executed = []
range_pieces task SizeReached = []
range_pieces task (ShownReached c) = []
range_pieces task (AcceptanceReached c) = []
range_pieces task (VerdictReached c) = []
range_pieces task (SubsetReached c w) = []
range_pieces task (RangesReached c r) = saved_in (ranges_file task) (ranges_text r)

-- ---- tables that are read

-- what the outside is at a moment, and the counts of the faults of the store and of the output
pub record Moment : Type 0 where
  pub outside : Outside
  pub files : ℕ
  pub out : ℕ

-- these are the texts of the words' files and of tables that were read
pub record AreRead (words : List (List ℕ)) (told : ToldNames) (s : Settings) (texts : List (List ℕ)) : Type 0 where
  pub asks : settings_of words ≡ Some s
  pub first : List (List ℕ)
  pub tables : List (List ℕ)
  pub texts_are : texts ≡ first ++ tables
  pub read : AreTexts told (sources_of s) first
  pub tables_read : AreTables told s first tables

-- these pieces were written since the start, at which at least this was told
pub record IsSince (told : ToldNames) (pieces : List Piece) (start now : Moment) : Type 0 where
  pub says : Says told start.outside.told
  pub written : AllWritten pieces start.outside now.outside
  pub files_later : start.files ≤ now.files
  pub out_later : start.out ≤ now.out

-- all texts that were read are executed so, and these pieces of their meaning were written since the start
pub record IsAt (words : List (List ℕ)) (told : ToldNames) (pieces : List Piece) (start now : Moment) (s : Settings) (texts : List (List ℕ)) (text : List ℕ) (data_texts tables : List (List ℕ)) : Type 0 where
  pub are_read : AreRead words told s texts
  pub parts : AreParts s texts text data_texts tables
  pub since : IsSince told pieces start now

-- it halts so; or the file of a table is not read
abbrev pub IsHaltOrUnread : ToldNames → Type 0 → Settings → List ℕ → List (List ℕ) → List (List ℕ) → Halt → Type 0
IsHaltOrUnread told files_rose s text data_texts tables (halts.End end) = IsEnd s text data_texts tables end
IsHaltOrUnread told files_rose s text data_texts tables (halts.Table w) = IsWaiting s text data_texts tables w
IsHaltOrUnread told files_rose s text data_texts tables (halts.Unread u) =
    (ends_in s s.language text data_texts tables ≡ Wanting u.name) × IsUnread (told_behind told (files_by (made_in s.language text data_texts tables)) u.name) files_rose u.fault

-- how a run stands between two tables: all files are written but those that were made last, and nothing that is displayed
pub record IsRun (words : List (List ℕ)) (told : ToldNames) (start now : Moment) (s : Settings) (texts : List (List ℕ)) (e : ExecutedHeld) : Type 0 where
  pub text : List ℕ
  pub data_texts : List (List ℕ)
  pub tables : List (List ℕ)
  pub before : List Piece
  pub at : IsAt words told before start now s texts text data_texts tables
  pub files : files_by (made_in s.language text data_texts tables) ≡ before ++ pieces_of e.files.items
  pub shown : shown_by s.display (made_in s.language text data_texts tables) ≡ pieces_of e.shown.items
  pub halt : IsHaltOrUnread told (Rose start.files now.files) s text data_texts tables e.halt

-- the words and the start are some
pub record IsSomeRun (now : Moment) (s : Settings) (texts : List (List ℕ)) (e : ExecutedHeld) : Type 0 where
  pub words : List (List ℕ)
  pub told : ToldNames
  pub start : Moment
  pub run : IsRun words told start now s texts e

pub record AreSomeInputs (now : ToldNames) (inputs : Inputs) : Type 0 where
  pub words : List (List ℕ)
  pub told : ToldNames
  pub same : SameNames told now
  pub are : AreInputs words told inputs

-- how it stands where a table's file is to be read: all files are written, and nothing that is displayed
pub record IsPaused (words : List (List ℕ)) (told : ToldNames) (start now : Moment) (s : Settings) (texts : List (List ℕ)) (shown : List Piece) (w : Waiting) : Type 0 where
  pub text : List ℕ
  pub data_texts : List (List ℕ)
  pub tables : List (List ℕ)
  pub at : IsAt words told (files_by (made_in s.language text data_texts tables)) start now s texts text data_texts tables
  pub shown_is : shown_by s.display (made_in s.language text data_texts tables) ≡ shown
  pub waiting : IsWaiting s text data_texts tables w

-- what holds of a run at one moment, holds of it at a later one
abbrev pub GoesOn : Moment → Moment → RunHeld → RunHeld → Type 0
GoesOn now later run made = (words : List (List ℕ)) (told : ToldNames) (start : Moment) → IsRun words told start now run.inputs.settings (texts_in run.inputs) run.executed → IsRun words told start later made.inputs.settings (texts_in made.inputs) made.executed

-- the same where its table's file is read, whatever the output is
abbrev pub GoesOnPaused : ToldNames → ℕ → ToldNames → ℕ → Inputs → List Piece → Waiting → RunHeld → Type 0
GoesOnPaused now files later files_later inputs shown w made = (words : List (List ℕ)) (told : ToldNames) (start : Moment) (taken : Option (List ℕ)) (out : ℕ)
    → IsPaused words told start (record { outside = record { taken = taken; told = now }; files = files; out = out }) inputs.settings (texts_in inputs) shown w
    → IsRun words told start (record { outside = record { taken = taken; told = later }; files = files_later; out = out }) made.inputs.settings (texts_in made.inputs) made.executed

-- the inputs with the text of one more table, and what their execution then comes to
pub record IsTableExecuted (inputs : Inputs) (w : Waiting) (table : List ℕ) (more : Inputs) (e : ExecutedHeld) : Type 0 where
  pub settings : more.settings ≡ inputs.settings
  pub texts : texts_in more ≡ texts_in inputs ++ table ∷ []
  pub execution : (text : List ℕ) (data_texts tables : List (List ℕ)) (files : List TableFile) → inputs.settings.language ≡ MathProg
      → making_of_math_prog text data_texts tables ≡ Some (record { printed = string_bytes w.printed; files = files })
      → IsPending text data_texts tables w.pending → IsExecutionOf (file_pieces files) inputs.settings text data_texts (tables ++ table ∷ []) e

-- how it stands where all is written that was executed
pub record IsWhole (words : List (List ℕ)) (told : ToldNames) (start now : Moment) (s : Settings) (texts : List (List ℕ)) (halt : Halt) : Type 0 where
  pub text : List ℕ
  pub data_texts : List (List ℕ)
  pub tables : List (List ℕ)
  pub at : IsAt words told (meaning_in s text data_texts tables).done start now s texts text data_texts tables
  pub is_halt : IsHaltOrUnread told (Rose start.files now.files) s text data_texts tables halt

-- not all is written that was executed, for this fault
pub record IsUnwritten (words : List (List ℕ)) (told : ToldNames) (start now : Moment) (fault : PublishFault) : Type 0 where
  pub done : OfTexts words told (HasDone (λ done. EndsWriting {T = Unit {0}} done start.outside now.outside (Err fault)))
  pub failed : HasFailed (Rose start.files now.files) (Rose start.out now.out) fault

-- a run does not come further for this fault
abbrev pub Stops : Moment → Moment → RunHeld → PublishFault → Type 0
Stops now later run fault = (words : List (List ℕ)) (told : ToldNames) (start : Moment) → IsRun words told start now run.inputs.settings (texts_in run.inputs) run.executed → IsUnwritten words told start later fault

-- what is written from the start on, with an answer
abbrev pub WrittenSince : List (List ℕ) → ToldNames → Outside → Outside → Answer → Type 0
WrittenSince words told old new answer = OfPieces words told (reached_of answer) (ThenLine (extent_of answer) (line_of answer) old new)

-- ---- what is said of an answer by the settings and the texts that were read

-- P holds of what is left to be written of the problem and behind `solve`
pub record HasLeft (reached : Reached) (P : List Piece → Type 0) (s : Settings) (texts : List (List ℕ)) : Type 0 where
  pub meaning : Meaning
  pub means : meaning_of s texts ≡ Some meaning
  pub problem : Problem
  pub end : meaning.end ≡ Declared problem
  pub found : List Piece
  pub are : found_pieces s.task problem reached ≡ Some found
  pub has : P (found ++ (behind_of s.task meaning reached).pieces)

-- P holds of what is left to be written once this was reached, where all that was printed before is written
abbrev pub LeftIn : Settings → List (List ℕ) → Reached → (List Piece → Type 0) → Type 0
LeftIn s texts Nothing P = ⊥
LeftIn s texts Executed P = P []
LeftIn s texts SizeReached P = HasLeft SizeReached P s texts
LeftIn s texts (ShownReached c) P = HasLeft (ShownReached c) P s texts
LeftIn s texts (AcceptanceReached c) P = HasLeft (AcceptanceReached c) P s texts
LeftIn s texts (VerdictReached c) P = HasLeft (VerdictReached c) P s texts
LeftIn s texts (SubsetReached c w) P = HasLeft (SubsetReached c w) P s texts
LeftIn s texts (RangesReached c r) P = HasLeft (RangesReached c r) P s texts

abbrev pub LeftWritten : Settings → List (List ℕ) → Outside → Outside → Answer → Type 0
LeftWritten s texts old new answer = LeftIn s texts (reached_of answer) (ThenLine (extent_of answer) (line_of answer) old new)

-- what was reached at last is what was reached before, or beside a verdict its ranges
pub data ComesTo (before last : Reached) : Type 0 where
  same : last ≡ before → ComesTo before last
  to_ranges : (c : Certificate) (r : AllRanges) → before ≡ VerdictReached c → last ≡ RangesReached c r → ComesTo before last

-- the answer says what was reached behind this, and what is left to be written behind `solve` is written so, where the report is
pub record RestWritten (reached : Reached) (s : Settings) (texts : List (List ℕ)) (old new : Outside) (answer : Answer) : Type 0 where
  pub meaning : Meaning
  pub means : meaning_of s texts ≡ Some meaning
  pub is_reached : ComesTo reached (reached_of answer)
  pub has : ThenLine (extent_of answer) (line_of answer) old new (behind_of s.task meaning (reached_of answer)).pieces
