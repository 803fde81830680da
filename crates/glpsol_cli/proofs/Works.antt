-- What the work on the texts and on a problem gives.
use Rattle.std.proofs.Common.{◌≡◌, ◌∙◌, ◌<◌, ◌≤◌, ◌+◌, ℕ, zero, suc, Bool, true, false, List, [], ◌∷◌, ◌++◌, length, map, take, get_or, Option, Some, None, refl, sym, ap, subst, arith, string_bytes}
use Rattle.std.proofs.lemmas.List.{length-append, map-append, take-map}
use Rattle.std.specs.Prelude.{Result, Ok, Err, IfOk, slice_get}
use Rattle.milp.specs.Problem.{Problem}
use Rattle.milp.specs.declared.Direction.{Direction}
use Rattle.gmpl_generate.specs.Running.{File as TableFile, Made, files_of}
use Rattle.gmpl_reader.specs.MathProg.{Ending, Declares, Fails, Wants, IsPending, IsReading, IsReadingEnd, IsRest, ending as ending_of_math_prog, making as making_of_math_prog}
use Rattle.gmpl_reader.specs.declared.fault.MathProgFault.TheVariants as math_prog
use Rattle.gmpl_reader.specs.declared.read.Pending.{Pending}
use Rattle.gmpl_reader.specs.declared.read.Reading.{Reading}
use Rattle.gmpl_reader.specs.declared.read.ReadingEnd.{ReadingEnd}
use Rattle.gmpl_reader.specs.declared.read.ReadingEnd.TheVariants as reading_end
use Rattle.verdicts.specs.Certificate.{Certificate, Verdict, Optimal, Infeasible, Unbounded}
use Rattle.branch_search.specs.Plain.{NoneInteger, IsPlainCertificate}
use Rattle.infeasible_subset.specs.declared.fault.SubsetFault.TheVariants.{NoFit as SubsetNoFit, PivotLimit as SubsetPivotLimit, NoMemory as SubsetNoMemory}
use Rattle.command_line.specs.declared.settings.Language.{Language}
use Rattle.command_line.specs.declared.settings.Language.TheVariants.{MathProg}
use Rattle.command_line.specs.declared.settings.Outputs.{Outputs}
use Rattle.command_line.specs.declared.settings.Settings.{Settings}
use Rattle.command_line.specs.declared.settings.Task.{Task}
use Rattle.command_line.specs.declared.settings.Task.TheVariants.{Solve, CheckCertificate}
use Rattle.glpsol_cli.proofs.FilesRead.{many_sources}
use Rattle.glpsol_cli.specs.Asked.{Checks, Solves, IsSolve, names_checked, sources_of, wants_subset}
use Rattle.glpsol_cli.specs.Meaning.{Declared, Faulty, Wanting, IsAsked, asked_of, directed, end_of_ending, ends_in, file_piece, file_pieces, files_by, lacks_subset, made_in, relaxed, shown_by}
use Rattle.glpsol_cli.specs.Cause.{IsProved, OfCertificate, IsNoCertificate, IsRefusedAt, IsCheckOverflow}
use Rattle.glpsol_cli.specs.Stages.{IsFinding, IsRangeable, IsRefuted, IsSolution, IsUnfound, IsUnsolved, IsExecution, IsExecutionOf, IsHalt, IsOfReading, IsOfReadingEnd, IsCheckStop, OfNext}
use Rattle.glpsol_cli.specs.declared.execution.Executed.{Executed}
use Rattle.glpsol_cli.specs.declared.execution.ExecutionEnd.TheVariants.{Problem as AtProblem, Fault as AtFault}
use Rattle.glpsol_cli.specs.declared.execution.Halt.{Halt}
use Rattle.glpsol_cli.specs.declared.execution.Halt.TheVariants as halts
use Rattle.glpsol_cli.specs.declared.stop.CheckStop.{CheckStop}
use Rattle.glpsol_cli.specs.declared.stop.CheckStop.TheVariants.{BadText, Refused, NoFit as CheckNoFit, NoMemory as CheckNoMemory}
use Rattle.glpsol_cli.specs.declared.stop.Unfound.{Unfound}
use Rattle.glpsol_cli.specs.declared.stop.Unfound.TheVariants.{Solve as SolveStop, Check, Subset as SubsetStop, NotLinear as NotLinearStop}
use Rattle.glpsol_cli.specs.declared.found.Finding.{Finding}
use Rattle.glpsol_cli.specs.declared.found.Finding.TheVariants.{Size as SizeFound, Acceptance as AcceptanceFound, Verdict as VerdictFound, Subset as SubsetFound}

-- ---- the execution of a MathProg text

-- neither the direction nor the integrality changes the rows
asked_rows : (d : Option Direction) (r : Bool) (p : Problem) → p.rows ≡ (relaxed r (directed d p)).rows
asked_rows None true p = refl
asked_rows None false p = refl
asked_rows (Some d) true p = refl
asked_rows (Some d) false p = refl

same_rows : (s : Settings) (p q : Problem) → q ≡ asked_of s p → p.rows ≡ q.rows
same_rows s p q e = asked_rows s.direction s.relaxed p ∙ ap (λ (t : Problem). t.rows) (sym e)

module _ (s : Settings) (text : List ℕ) (data_texts tables : List (List ℕ)) (is : s.language ≡ MathProg) where
  pub makes : (o : Option Made) → making_of_math_prog text data_texts tables ≡ o → made_in s.language text data_texts tables ≡ o
  makes o h = ap (λ (l : Language). made_in l text data_texts tables) is ∙ h

  pub ends_so : (e : Ending) → ending_of_math_prog text data_texts tables ≡ e → ends_in s s.language text data_texts tables ≡ end_of_ending s e
  ends_so e h = ap (λ (l : Language). ends_in s l text data_texts tables) is ∙ ap (end_of_ending s) h

  module _ (files : List TableFile) (printed : List ℕ) (made : making_of_math_prog text data_texts tables ≡ Some (record { printed = printed; files = files })) where
    halts_by : (from : ReadingEnd) (to : Halt) → IsReadingEnd text data_texts tables from → IsOfReadingEnd s printed from to → IsHalt s text data_texts tables to
    halts_by (reading_end.Problem p rest) (halts.End (AtProblem q None)) h k = absurd k
    halts_by (reading_end.Problem p rest) (halts.End (AtProblem q (Some later))) h k = (
      ends_so (Declares p) h.0 ∙ ap Declared (sym k.0),
      record {
        language = is;
        problem = p;
        declares = h.0;
        rows = same_rows s p q k.0;
        files = files;
        earlier = made ∙ ap (λ text. Some (record { printed = text; files = files })) (sym k.1);
        rest = subst (IsRest text data_texts tables) (sym k.2) h.1;
      },
    )
    halts_by (reading_end.Problem p rest) (halts.End (AtFault fault)) h k = absurd k
    halts_by (reading_end.Problem p rest) (halts.Table w) h k = absurd k
    halts_by (reading_end.Problem p rest) (halts.Unread u) h k = absurd k
    halts_by (reading_end.Table pending) (halts.End end) h k = absurd k
    halts_by (reading_end.Table pending) (halts.Table w) h k = record {
      wants = ends_so (Wants pending.pause.name) h.0 ∙ ap (λ (p : Pending). Wanting p.pause.name) (sym k.1);
      language = is;
      files = files;
      made = made ∙ ap (λ text. Some (record { printed = text; files = files })) (sym k.0);
      pending = subst (IsPending text data_texts tables) (sym k.1) h.1;
    }
    halts_by (reading_end.Table pending) (halts.Unread u) h k = absurd k
    halts_by (reading_end.Fault fault) (halts.End (AtProblem q later)) h k = absurd k
    halts_by (reading_end.Fault fault) (halts.End (AtFault other)) h k = ends_so (Fails (math_prog.Model fault)) h ∙ ap Faulty (sym k)
    halts_by (reading_end.Fault fault) (halts.Table w) h k = absurd k
    halts_by (reading_end.Fault fault) (halts.Unread u) h k = absurd k

  reads : (before : List TableFile) (r : Reading) (e : Executed) → IsReading before text data_texts tables r → IsOfReading s r e → IsExecutionOf (file_pieces before) s text data_texts tables e
  reads before r e h of = record {
    files =
        ap files_by (makes (Some (record { printed = string_bytes r.printed; files = before ++ files_of r.files.items })) h.made)
        ∙ map-append file_piece before (files_of r.files.items) ∙ ap (λ ps. file_pieces before ++ ps) (sym of.files);
    shown = ap (shown_by s.display) (makes (Some (record { printed = string_bytes r.printed; files = before ++ files_of r.files.items })) h.made) ∙ sym of.shown;
    halt = halts_by (before ++ files_of r.files.items) (string_bytes r.printed) h.made r.end e.halt h.end of.halt;
  }

  pub reads_so : {E : Type 0} (before : List TableFile) (r : Reading) (made : Result Executed E) → IsReading before text data_texts tables r → IfOk made (IsOfReading s r) → IfOk made (IsExecutionOf (file_pieces before) s text data_texts tables)
  reads_so before r (Ok e) h of = reads before r e h of
  reads_so before r (Err e) h of = tt

-- behind a table
pub reads_on : {E : Type 0} (s : Settings) (table printed : List ℕ) (pending taken : Pending) → taken ≡ pending → (r : Reading) (made : Result Executed E)
    → ((text : List ℕ) (data_texts tables : List (List ℕ)) (before : List TableFile) → making_of_math_prog text data_texts tables ≡ Some (record { printed = printed; files = before }) → IsPending text data_texts tables taken → IsReading before text data_texts (tables ++ table ∷ []) r)
    → IfOk made (IsOfReading s r)
    → IfOk made (λ e. (text : List ℕ) (data_texts tables : List (List ℕ)) (files : List TableFile) → s.language ≡ MathProg → making_of_math_prog text data_texts tables ≡ Some (record { printed = printed; files = files }) → IsPending text data_texts tables pending → IsExecutionOf (file_pieces files) s text data_texts (tables ++ table ∷ []) e)
reads_on s table printed pending taken same r (Ok e) read of = λ text data_texts tables files is making pends. reads s text data_texts (tables ++ table ∷ []) is files r e (read text data_texts tables files making (subst (IsPending text data_texts tables) (sym same) pends)) of
reads_on s table printed pending taken same r (Err e) read of = tt

-- ---- all texts

module _ {X : Type 0} (f : X → List ℕ) (s : Settings) (xs others taken : List X) (x : X) (text : List ℕ) (parts : xs ≡ x ∷ others) (first : text ≡ f x) (some : taken ≡ take (length s.data_files) others) where
  executes : (e : Executed) → IsExecutionOf [] s text (map f taken) [] e → IsExecution s (map f xs) e
  executes e h = record {
    text = text;
    others = map f others;
    are = ap (map f) parts ∙ ap (λ t. t ∷ map f others) (sym first);
    execution = subst (λ ds. IsExecutionOf [] s text ds [] e) (ap (map f) some ∙ sym (take-map f (length s.data_files) others)) h;
  }

  pub executes_all : {E : Type 0} (r : Result Executed E) → IfOk r (IsExecutionOf [] s text (map f taken) []) → IfOk r (IsExecution s (map f xs))
  executes_all (Ok e) h = executes e h
  executes_all (Err e) h = tt

-- ---- solving

module _ (s : Settings) (texts : List (List ℕ)) (p : Problem) (asks : IsAsked s texts p) (solves : Solves s) where
  abbrev refuted : (r : IsRefuted p) → IsProved r.certificate s texts
  refuted r = record { problem = p; asked = asks; solves = solves; proves = r.proves; accepted = r.accepted }

  pub unsolved : (u : Unfound) → IsUnsolved p s u → IsUnfound u s texts
  unsolved (SolveStop u) h = record { problem = p; asked = asks; solves = solves; unsolved = h.0; passes = h.1 }
  unsolved (Check stop) h = absurd h
  unsolved (SubsetStop (SubsetNoFit stuck)) h = record { certificate = h.1.certificate; infeasible = h.1.infeasible; proved = refuted h.1; wanted = h.0; holds = h.2 }
  unsolved (SubsetStop (SubsetPivotLimit long)) h = record { certificate = h.1.certificate; infeasible = h.1.infeasible; proved = refuted h.1; wanted = h.0; holds = h.2 }
  unsolved (SubsetStop SubsetNoMemory) h = tt
  unsolved NotLinearStop h = record { problem = p; asked = asks; solves = solves; wanted = h.0; integer = h.1 }

  pub solution_found : (f : Finding) → IsSolution p s.task f → IsFinding p s texts f
  solution_found SizeFound h = absurd h
  solution_found (AcceptanceFound c) h = absurd h
  solution_found (VerdictFound c) h = (solves, h.0, h.1, h.2, h.3)
  solution_found (SubsetFound c w) h = record {
    proved = record { problem = p; asked = asks; solves = solves; proves = h.0.0; accepted = h.0.1 };
    wanted = h.1;
    infeasible = h.0.2;
    is = h.0.3;
    by_weights = h.0.4;
  }

pub solves_by : (task : Task) (outputs : Outputs) → task ≡ Solve outputs → IsSolve task
solves_by task outputs e = subst IsSolve (sym e) tt

-- a certificate of one leaf, of a problem without integer columns
pub rangeable : (p : Problem) (task : Task) (c : Certificate) → NoneInteger p.columns → IsPlainCertificate p c → IsRangeable p task c
rangeable p task c continuous plain = λ wanted. (continuous, plain)

-- where no subset is wanted
pub no_subset : (task : Task) (c : Certificate) → wants_subset task ≡ false → lacks_subset (wants_subset task) c.verdict ≡ false
no_subset task c e = ap (λ w. lacks_subset w c.verdict) e ∙ lacks_none c.verdict
  where
    lacks_none : (v : Verdict) → lacks_subset false v ≡ false
    lacks_none Optimal = refl
    lacks_none Infeasible = refl
    lacks_none Unbounded = refl

-- ---- checking

pub checks_by : {name : List ℕ} {migrated : Option (List ℕ)} (task : Task) → task ≡ CheckCertificate name migrated → names_checked task ≡ name ∷ []
checks_by task e = ap names_checked e

-- there is a text behind those of the data files
pub one_behind : (s : Settings) (name : List ℕ) (count : ℕ) → Checks s name → length (sources_of s) ≤ count → suc (length s.data_files) < count
one_behind s name count is h =
    let both = length-append s.data_files (names_checked s.task) in
    let one : length (names_checked s.task) ≡ 1 = ap length is in
    let many = many_sources s in
    omega (arith, h, both, one, many)

text_at : {X : Type 0} (f : X → List ℕ) (xs : List X) (m : ℕ) (x : X) → m < length xs → x ≡ get_or xs m x → slice_get (map f xs) m ≡ Some (f x)
text_at f [] m x within e = absurd (omega (arith, within))
text_at f (y ∷ ys) zero x within e = ap (λ z. Some (f z)) (sym e)
text_at f (y ∷ ys) (suc m) x within e = text_at f ys m x (omega (arith, within)) e

-- the text behind the first and so many others
pub next_text_is : {X : Type 0} (f : X → List ℕ) (xs : List X) (count : ℕ) (x : X) (bytes : List ℕ) → suc count < length xs → x ≡ get_or xs (count + 1) x → bytes ≡ f x → slice_get (map f xs) (suc count) ≡ Some bytes
next_text_is f xs count x bytes within e is =
    let next : count + 1 ≡ suc count = omega arith in
    text_at f xs (suc count) x within (subst (λ k. x ≡ get_or xs k x) next e) ∙ ap Some (sym is)

module _ (s : Settings) (texts : List (List ℕ)) (p : Problem) (name : List ℕ) (is : Checks s name) (asks : IsAsked s texts p) where
  pub of_checked : (P : Problem → List ℕ → Type 0) → OfNext (P p) (length s.data_files) texts → OfCertificate P s texts
  of_checked P h = record { problem = p; asked = asks; name = name; checks = is; bytes = h.bytes; stands = h.stands; holds = h.holds }

  pub unchecked : (stop : CheckStop) → OfNext (λ bytes. IsCheckStop p bytes stop) (length s.data_files) texts → IsUnfound (Check stop) s texts
  unchecked (BadText fault) h = of_checked (IsNoCertificate fault) h
  unchecked (Refused part) h = of_checked (IsRefusedAt part) h
  unchecked (CheckNoFit f) h = of_checked (IsCheckOverflow f.part f.fault) h
  unchecked CheckNoMemory h = tt
