-- What a run writes with each answer: the pieces of what it reached, or the first of them, and then the line of a fault or a part of it.
-- Behind a write on the output that fails nothing more is written there.
use Rattle.std.specs.Prelude.{◌⊎◌, ℕ, List, [], codes}
use Rattle.solution_writer.specs.FaultLine.{named_line, overflow_line, usage_line, syntax_line, data_line, model_line, file_line, certificate_line, not_linear_line, undecided_nodes_line, undecided_pivots_line, refused_line, no_memory_line}
use Rattle.branch_search.specs.declared.whole_fault.VerdictFault.{VerdictFault}
use Rattle.branch_search.specs.declared.whole_fault.VerdictFault.TheVariants.{NoFit as SearchNoFit, PivotLimit, SplitLimit, NoMemory as SearchNoMemory}
use Rattle.exact_ranges.specs.declared.fault.RangeFault.{RangeFault}
use Rattle.exact_ranges.specs.declared.fault.RangeFault.TheVariants.{Search, TooLarge, Weight, MovedBound, NoMemory as RangeNoMemory}
use Rattle.glpsol_cli.specs.Pieces.{Piece, Outside, IsWrittenInPart, Extent, Whole, UpTo, Part, WrittenTo, WrittenUpTo}
use Rattle.glpsol_cli.specs.Texts.{OfPieces}
use Rattle.glpsol_cli.specs.Cause.{reached_of}
use Rattle.glpsol_cli.specs.declared.answer.Answer.{Answer}
use Rattle.glpsol_cli.specs.declared.answer.Answer.TheVariants.{Optimal, Ranged, Infeasible, Irreducible, Unbounded, Translated, Accepted, Usage, Missing, OpenFault, ReadFault, WriteFault, TooLong, BadText, FaultBehindSolve, Unranged, BadCertificate, NotLinear, Overflow, Undecided, Refused, NoMemory}
use Rattle.glpsol_cli.specs.declared.answer.Leftover.{Leftover}
use Rattle.glpsol_cli.specs.declared.answer.Leftover.TheVariants.{Unasked, Unmade, Saved, Unsaved}
use Rattle.glpsol_cli.specs.declared.answer.Limit.{Limit}
use Rattle.glpsol_cli.specs.declared.answer.Limit.TheVariants.{Pivots, Splits, SubsetPivots}
use Rattle.glpsol_cli.specs.declared.answer.Target.{Target}
use Rattle.glpsol_cli.specs.declared.answer.Target.TheVariants.{Out, File}
use Rattle.glpsol_cli.specs.declared.answer.TextFault.{TextFault}
use Rattle.glpsol_cli.specs.declared.answer.TextFault.TheVariants.{Syntax, Data, Model, File as FileText}

-- the line of a target that can't be written; the output has none
abbrev pub target_line_of : Target → List ℕ
target_line_of Out = []
target_line_of (File name) = named_line (codes "write fault") name

abbrev pub text_line : TextFault → List ℕ
text_line (Syntax fault) = syntax_line fault
text_line (Data fault) = data_line fault
text_line (Model fault) = model_line fault
text_line (FileText fault) = file_line fault

abbrev pub undecided_line : Limit → List ℕ
undecided_line (Pivots wanted bases board left) = undecided_pivots_line
undecided_line (SubsetPivots members bases) = undecided_pivots_line
undecided_line (Splits wanted board left) = undecided_nodes_line

-- where a problem of a range's end has more columns, rows or entries than a problem takes
abbrev pub too_large_line : List ℕ
too_large_line = codes "too large\n"

-- where there is no verdict of such a problem
abbrev pub search_line : VerdictFault → List ℕ
search_line (SearchNoFit wanted site) = overflow_line site.fault
search_line (PivotLimit wanted bases board) = undecided_pivots_line
search_line (SplitLimit wanted board) = undecided_nodes_line
search_line SearchNoMemory = no_memory_line

-- where ranges are not found
abbrev pub unranged_line : RangeFault → List ℕ
unranged_line (Search sought fault) = search_line fault
unranged_line (TooLarge sought) = too_large_line
unranged_line (Weight row side e) = overflow_line e
unranged_line (MovedBound row side end e) = overflow_line e
unranged_line RangeNoMemory = no_memory_line

-- the line of a fault; an answer without a fault has none
abbrev pub line_of : Answer → List ℕ
line_of (Optimal c) = []
line_of (Ranged c r) = []
line_of (Infeasible c) = []
line_of (Irreducible c w) = []
line_of (Unbounded c) = []
line_of Translated = []
line_of (Accepted c) = []
line_of Usage = usage_line
line_of (Missing name reached) = named_line (codes "missing") name
line_of (OpenFault name reached) = named_line (codes "open fault") name
line_of (ReadFault name reached) = named_line (codes "read fault") name
line_of (WriteFault target reached) = target_line_of target
line_of (TooLong name reached) = named_line (codes "too long") name
line_of (BadText fault) = text_line fault
line_of (FaultBehindSolve fault c) = model_line fault
line_of (Unranged fault c) = unranged_line fault
line_of (BadCertificate fault) = certificate_line fault
line_of NotLinear = not_linear_line
line_of (Overflow at fault) = overflow_line fault
line_of (Undecided limit) = undecided_line limit
line_of (Refused part) = refused_line part
line_of (NoMemory reached) = no_memory_line

-- the file of what a search leaves is written, or a part of it
abbrev pub extent_left : Leftover → Extent
extent_left Unasked = Whole
extent_left Unmade = Whole
extent_left (Saved c) = Whole
extent_left (Unsaved c) = Part

abbrev pub extent_at : Limit → Extent
extent_at (Pivots wanted bases board left) = extent_left left
extent_at (Splits wanted board left) = extent_left left
extent_at (SubsetPivots members bases) = Whole

-- how far the pieces are written: up to what can't be written, or, where memory is wanting, some of them; else all
abbrev pub extent_of : Answer → Extent
extent_of (Optimal c) = Whole
extent_of (Ranged c r) = Whole
extent_of (Infeasible c) = Whole
extent_of (Irreducible c w) = Whole
extent_of (Unbounded c) = Whole
extent_of Translated = Whole
extent_of (Accepted c) = Whole
extent_of Usage = Whole
extent_of (Missing name reached) = Whole
extent_of (OpenFault name reached) = Whole
extent_of (ReadFault name reached) = Whole
extent_of (WriteFault target reached) = UpTo target
extent_of (TooLong name reached) = Whole
extent_of (BadText fault) = Whole
extent_of (FaultBehindSolve fault c) = Whole
extent_of (Unranged fault c) = Whole
extent_of (BadCertificate fault) = Whole
extent_of NotLinear = Whole
extent_of (Overflow at fault) = Whole
extent_of (Undecided limit) = extent_at limit
extent_of (Refused part) = Whole
extent_of (NoMemory reached) = Part

-- the pieces are written so far, and then a part of the line from its front
abbrev pub LineBehind : Extent → List ℕ → Outside → Outside → List Piece → Type 0
LineBehind extent line old new pieces = (middle : Outside) × WrittenTo extent pieces old middle × IsWrittenInPart Out line middle new

-- the same; or, where memory is wanting for a write on the output, the pieces are written up to that one, and no line comes
abbrev pub ThenLine : Extent → List ℕ → Outside → Outside → List Piece → Type 0
ThenLine Whole line old new pieces = LineBehind Whole line old new pieces
ThenLine (UpTo target) line old new pieces = LineBehind (UpTo target) line old new pieces
ThenLine Part line old new pieces = LineBehind Part line old new pieces ⊎ WrittenUpTo Out pieces old new

-- what is written with an answer: the pieces of what was reached, and then the line
abbrev pub Written : List (List ℕ) → Outside → Outside → Answer → Type 0
Written words old new answer = OfPieces words old.told (reached_of answer) (ThenLine (extent_of answer) (line_of answer) old new)
