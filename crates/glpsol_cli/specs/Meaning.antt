-- What the texts of a command's files mean, and what is written of it.
use Rattle.std.specs.Prelude.{◌≡◌, ℕ, Bool, true, false, List, [], ◌∷◌, ◌++◌, length, take, drop, map, Result, Some, None, Ok, Err}
use Rattle.std.specs.declared.option.Option.{Option}
use Rattle.std.specs.Option.{option_map}
use Rattle.rational.specs.Rational.{Rational}
use Rattle.milp.specs.Problem.{Problem}
use Rattle.milp.specs.declared.Direction.{Direction}
use Rattle.instance.specs.Continuous.{without_integrality}
use Rattle.verdicts.specs.Certificate.{Certificate, Verdict, Version, One, Two}
use Rattle.verdicts.specs.Certificate as kind
use Rattle.verdicts.specs.Migrated.{migrated}
use Rattle.certificate.specs.Text.{certificate_text}
use Rattle.partial_certificate.specs.Text.{partial_text}
use Rattle.gmpl_solution.specs.Solution.{Duals}
use Rattle.dual_values.specs.Duals.{duals_of}
use Rattle.gmpl_generate.specs.declared.fault.ModelFault.{ModelFault}
use Rattle.gmpl_generate.specs.Running.{File as TableFile, Made}
use Rattle.gmpl_reader.specs.MathProg.{Ending, Declares, Fails, Wants, ending as ending_of_math_prog, making as making_of_math_prog, afterwards as afterwards_of_math_prog}
use Rattle.gmpl_reader.specs.declared.fault.MathProgFault.{MathProgFault}
use Rattle.gmpl_reader.specs.declared.fault.MathProgFault.TheVariants as math_prog
use Rattle.model_text.specs.declared.fault.FileFault.{FileFault}
use Rattle.mps_reader.specs.FreeMps.{declared as declared_by_free_mps}
use Rattle.cplex_lp_reader.specs.CplexLp.{declared as declared_by_cplex_lp}
use Rattle.made_problem.specs.Made.{made_problem}
use Rattle.command_line.specs.declared.settings.Language.{Language}
use Rattle.command_line.specs.declared.settings.Language.TheVariants.{MathProg, FreeMps, CplexLp, Made as IsMade}
use Rattle.command_line.specs.declared.settings.Outputs.{Outputs}
use Rattle.command_line.specs.declared.settings.Settings.{Settings}
use Rattle.command_line.specs.declared.settings.Task.{Task}
use Rattle.solution_writer.specs.Report.{solved_report, summary_report, translated_report, accepted_report}
use Rattle.solution_writer.specs.Subset.{subset_report}
use Rattle.solution_writer.specs.Solution.{raw_solution}
use Rattle.exact_ranges.specs.Ranges.{AllRanges}
use Rattle.exact_ranges.specs.Text.{ranges_text}
use Rattle.glpsol_cli.specs.Asked.{certificate_file, migrated_file, names_checked, outputs_of, ranges_file, wants_subset, wants_summary}
use Rattle.glpsol_cli.specs.Pieces.{Piece}
use Rattle.glpsol_cli.specs.declared.answer.Reached.{Reached}
use Rattle.glpsol_cli.specs.declared.answer.Reached.TheVariants.{Nothing, Executed, Size, Shown, Acceptance, Verdict as VerdictReached, Subset as SubsetReached, Ranges as RangesReached}
use Rattle.glpsol_cli.specs.declared.answer.Target.{Target}
use Rattle.glpsol_cli.specs.declared.answer.Target.TheVariants.{Out, File}
use Rattle.glpsol_cli.specs.declared.answer.TextFault.{TextFault}
use Rattle.glpsol_cli.specs.declared.answer.TextFault.TheVariants as text_fault

-- ---- what the texts mean

-- how the execution of the texts ends: they declare a problem, or have this fault and none before it, or the file of this name, which
-- a table is read from, is to be read next
pub data End : Type 0 where
  Declared : Problem → End
  Faulty : TextFault → End
  Wanting : List ℕ → End

-- what the statements behind `solve` come to: what they write, in order, and their first fault
pub record Behind : Type 0 where
  pub pieces : List Piece
  pub fault : Option ModelFault

-- the files of tables that are made while the texts are executed, in order; all that is written by then, which is these files and
-- behind them what is displayed, and how that ends; and what the statements behind `solve` come to at a point of the problem, with dual
-- values
pub record Meaning : Type 0 where
  pub files : List Piece
  pub done : List Piece
  pub end : End
  pub behind : List Rational → Duals → Behind

abbrev pub text_fault_of : MathProgFault → TextFault
text_fault_of (math_prog.Syntax fault) = text_fault.Syntax fault
text_fault_of (math_prog.Data fault) = text_fault.Data fault
text_fault_of (math_prog.Model fault) = text_fault.Model fault

-- `--min` and `--max` set the direction
abbrev pub directed : Option Direction → Problem → Problem
directed None p = p
directed (Some d) p = record p { direction = d }

-- `--nomip` asks for no whole numbers
abbrev pub relaxed : Bool → Problem → Problem
relaxed true p = without_integrality p
relaxed false p = p

-- the problem that is asked about, of the one that the texts declare
abbrev pub asked_of : Settings → Problem → Problem
asked_of s p = relaxed s.relaxed (directed s.direction p)

-- of a text of a language whose texts read no tables
abbrev pub end_of : Settings → Result Problem FileFault → End
end_of s (Ok p) = Declared (asked_of s p)
end_of s (Err fault) = Faulty (text_fault.File fault)

abbrev pub end_of_ending : Settings → Ending → End
end_of_ending s (Declares p) = Declared (asked_of s p)
end_of_ending s (Fails fault) = Faulty (text_fault_of fault)
end_of_ending s (Wants name) = Wanting name

-- how a text of this language ends, in MathProg with the texts of data files, and those of the files that tables are read from, in the
-- order in which they are read
abbrev pub ends_in : Settings → Language → List ℕ → List (List ℕ) → List (List ℕ) → End
ends_in s MathProg text data_texts tables = end_of_ending s (ending_of_math_prog text data_texts tables)
ends_in s FreeMps text data_texts tables = end_of s (declared_by_free_mps text)
ends_in s CplexLp text data_texts tables = end_of s (declared_by_cplex_lp text)
ends_in s (IsMade size) text data_texts tables = Declared (asked_of s (made_problem size))

-- what a text prints and which files it makes while it is executed; the texts of MathProg alone do so, where the text and its data are
-- good
abbrev pub made_in : Language → List ℕ → List (List ℕ) → List (List ℕ) → Option Made
made_in MathProg text data_texts tables = making_of_math_prog text data_texts tables
made_in FreeMps text data_texts tables = None
made_in CplexLp text data_texts tables = None
made_in (IsMade size) text data_texts tables = None

-- what the statements behind `solve` print and make at a point with dual values, and their first fault, where there are any
abbrev pub afterwards_in : Language → List ℕ → List (List ℕ) → List (List ℕ) → List Rational → Duals → Option (Made × Option ModelFault)
afterwards_in MathProg text data_texts tables x duals = afterwards_of_math_prog text data_texts tables x duals
afterwards_in FreeMps text data_texts tables x duals = None
afterwards_in CplexLp text data_texts tables x duals = None
afterwards_in (IsMade size) text data_texts tables x duals = None

-- where printed texts go: the file that `--display` names, or the output
abbrev pub display_target : Option (List ℕ) → Target
display_target None = Out
display_target (Some name) = File name

abbrev pub displayed : Option (List ℕ) → List ℕ → List Piece
displayed file text = record { target = display_target file; text = text } ∷ []

-- a file that a table is written to
abbrev pub file_piece : TableFile → Piece
file_piece f = record { target = File f.name; text = f.text }

abbrev pub file_pieces : List TableFile → List Piece
file_pieces fs = map file_piece fs

abbrev pub files_by : Option Made → List Piece
files_by None = []
files_by (Some made) = file_pieces made.files

abbrev pub shown_by : Option (List ℕ) → Option Made → List Piece
shown_by file None = []
shown_by file (Some made) = displayed file made.printed

abbrev pub printed_by : Option Made → List ℕ
printed_by None = []
printed_by (Some made) = made.printed

-- the file is made anew with the whole text, of which this was printed before
abbrev pub with_earlier : Option (List ℕ) → List ℕ → List ℕ → List ℕ
with_earlier None earlier text = text
with_earlier (Some name) earlier text = earlier ++ text

-- no statement stands behind `solve`
abbrev pub nothing_behind : Behind
nothing_behind = record { pieces = []; fault = None }

abbrev pub behind_by : Option (List ℕ) → List ℕ → Option (Made × Option ModelFault) → Behind
behind_by file earlier None = nothing_behind
behind_by file earlier (Some after) = record { pieces = file_pieces after.0.files ++ displayed file (with_earlier file earlier after.0.printed); fault = after.1 }

-- the meaning of a model's text, with those of the data files and of the tables that were read
abbrev pub meaning_in : Settings → List ℕ → List (List ℕ) → List (List ℕ) → Meaning
meaning_in s text data_texts tables = record {
  files = files_by (made_in s.language text data_texts tables);
  done = files_by (made_in s.language text data_texts tables) ++ shown_by s.display (made_in s.language text data_texts tables);
  end = ends_in s s.language text data_texts tables;
  behind = λ x duals. behind_by s.display (printed_by (made_in s.language text data_texts tables)) (afterwards_in s.language text data_texts tables x duals);
}

-- how many texts stand behind the model's that are read before it is executed
abbrev pub files_behind : Settings → ℕ
files_behind s = length (s.data_files ++ names_checked s.task)

-- the model's text stands first, and then those of the data files, of the certificate that is to be checked, and of the tables
abbrev pub meaning_of : Settings → List (List ℕ) → Option Meaning
meaning_of s [] = None
meaning_of s (text ∷ others) = Some (meaning_in s text (take (length s.data_files) others) (drop (files_behind s) others))

abbrev pub end_in : Settings → List (List ℕ) → Option End
end_in s texts = option_map (λ (m : Meaning). m.end) (meaning_of s texts)

-- p is the problem that the texts declare, in the direction and with the integrality that the settings ask for
abbrev pub IsAsked : Settings → List (List ℕ) → Problem → Type 0
IsAsked s texts p = end_in s texts ≡ Some (Declared p)

-- the texts have this fault, and none before it
abbrev pub IsRefused : TextFault → Settings → List (List ℕ) → Type 0
IsRefused fault s texts = end_in s texts ≡ Some (Faulty fault)

-- ---- what is written of what was reached

-- a text to the file of this name, where there is one
abbrev pub saved_in : Option (List ℕ) → List ℕ → List Piece
saved_in None text = []
saved_in (Some name) text = record { target = File name; text = text } ∷ []

abbrev pub printed : List ℕ → List Piece
printed text = record { target = Out; text = text } ∷ []

-- what goes to the files, in order: the report, the raw solution, and the certificate
abbrev pub saved_pieces : Option Outputs → Problem → Certificate → List ℕ → List Piece
saved_pieces None p c report = []
saved_pieces (Some outputs) p c report = saved_in outputs.report report ++ (saved_in outputs.solution (raw_solution p c) ++ saved_in outputs.certificate (certificate_text c))

-- the report on the output, and then the files
abbrev pub solved_pieces : Task → Problem → Certificate → List ℕ → List Piece
solved_pieces task p c report = printed report ++ saved_pieces (outputs_of task) p c report

-- a certificate of this version as one of version 2
abbrev pub from_version : Version → Problem → Certificate → Certificate
from_version One p c = migrated p c
from_version Two p c = c

abbrev pub in_version_two : Problem → Certificate → Certificate
in_version_two p c = from_version c.version p c

-- the report that a certificate is accepted on the output, and then the certificate to its file
abbrev pub accepted_pieces : Task → Problem → Certificate → List Piece
accepted_pieces task p c = printed accepted_report ++ saved_in (migrated_file task) (certificate_text (in_version_two p c))

-- a report of this verdict lacks a subset, where one is wanted
abbrev pub lacks_subset : Bool → Verdict → Bool
lacks_subset wanted kind.Optimal = false
lacks_subset wanted kind.Infeasible = wanted
lacks_subset wanted kind.Unbounded = false

-- the report of a solved problem, or its summary
abbrev pub report_by : Bool → Problem → Certificate → Option (List ℕ)
report_by true p c = summary_report p c
report_by false p c = solved_report p c

abbrev pub whole_report : Bool → Task → Problem → Certificate → Option (List ℕ)
whole_report true task p c = None
whole_report false task p c = report_by (wants_summary task) p c

-- What is written of a problem once this was reached. What a search has shown that came to a limit goes to the certificate's file. None where a certificate lacks a part that its report shows, or a subset is
-- lacking that is wanted
abbrev pub found_pieces : Task → Problem → Reached → Option (List Piece)
found_pieces task p Nothing = Some []
found_pieces task p Executed = Some []
found_pieces task p Size = Some (printed (translated_report p))
found_pieces task p (Shown c) = Some (saved_in (certificate_file task) (partial_text c))
found_pieces task p (Acceptance c) = Some (accepted_pieces task p c)
found_pieces task p (VerdictReached c) = option_map (solved_pieces task p c) (whole_report (lacks_subset (wants_subset task) c.verdict) task p c)
found_pieces task p (RangesReached c r) = option_map (solved_pieces task p c) (whole_report (lacks_subset (wants_subset task) c.verdict) task p c)
found_pieces task p (SubsetReached c w) = Some (solved_pieces task p c (subset_report p w.witnesses))

-- the statements behind `solve` are executed at a best point alone
abbrev pub behind_with : (List Rational → Duals → Behind) → Duals → Verdict → Option (List Rational) → Behind
behind_with behind duals kind.Optimal (Some x) = behind x duals
behind_with behind duals kind.Optimal None = nothing_behind
behind_with behind duals kind.Infeasible point = nothing_behind
behind_with behind duals kind.Unbounded point = nothing_behind

-- at the point of a certificate of the problem that is declared, with the dual values that it has there
abbrev pub behind_at : (List Rational → Duals → Behind) → End → Certificate → Behind
behind_at behind (Declared p) c = behind_with behind (duals_of p c) c.verdict c.point
behind_at behind (Faulty fault) c = nothing_behind
behind_at behind (Wanting name) c = nothing_behind

-- the ranges go to their file behind all else
abbrev pub with_ranges : Option (List ℕ) → AllRanges → Behind → Behind
with_ranges file r behind = record behind { pieces = behind.pieces ++ saved_in file (ranges_text r) }

-- what comes behind the report once this was reached
abbrev pub behind_of : Task → Meaning → Reached → Behind
behind_of task m Nothing = nothing_behind
behind_of task m Executed = nothing_behind
behind_of task m Size = nothing_behind
behind_of task m (Shown c) = nothing_behind
behind_of task m (Acceptance c) = nothing_behind
behind_of task m (VerdictReached c) = behind_at m.behind m.end c
behind_of task m (SubsetReached c w) = nothing_behind
behind_of task m (RangesReached c r) = with_ranges (ranges_file task) r (behind_at m.behind m.end c)

-- P holds of what is written while the texts are executed
pub record HasDone (P : List Piece → Type 0) (s : Settings) (texts : List (List ℕ)) : Type 0 where
  pub meaning : Meaning
  pub means : meaning_of s texts ≡ Some meaning
  pub has : P meaning.done

-- P holds of that, with what is written of the problem once this was reached, then behind `solve`, and then of ranges
pub record HasFound (reached : Reached) (P : List Piece → Type 0) (s : Settings) (texts : List (List ℕ)) : Type 0 where
  pub meaning : Meaning
  pub means : meaning_of s texts ≡ Some meaning
  pub problem : Problem
  pub end : meaning.end ≡ Declared problem
  pub found : List Piece
  pub are : found_pieces s.task problem reached ≡ Some found
  pub has : P (meaning.done ++ (found ++ (behind_of s.task meaning reached).pieces))
