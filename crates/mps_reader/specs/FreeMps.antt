-- The problem that a free MPS text declares, or its first fault.
use Rattle.std.specs.Prelude.{ℕ, ◌+◌, ◌||◌, not, Bool, false, List, [], ◌∷◌, codes, Some, None, Result, Ok, Err, if◌then◌else◌}
use Rattle.std.specs.declared.option.Option.{Option}
use Rattle.std.specs.List.{list_all}
use Rattle.std.specs.Str.{is_utf8}
use Rattle.milp.specs.Problem.{Problem}
use Rattle.model_text.specs.Bytes.{is_one_of}
use Rattle.model_text.specs.declared.fault.FaultKind.{FaultKind}
use Rattle.model_text.specs.declared.fault.FaultKind.TheVariants.{BadSection, BadLine, NoEnd}
use Rattle.model_text.specs.declared.fault.FileFault.{FileFault}
use Rattle.model_text.specs.declared.profile.Profile.{Profile}
use Rattle.mps_draft.specs.declared.section.Section.{Section}
use Rattle.mps_draft.specs.declared.section.Section.TheVariants.{Start, NameLine, SenseAwaited, SenseGiven, Rows, Columns, Rhs, Ranges, Bounds, Ended}
use Rattle.mps_reader.specs.declared.pairs_section.PairSection.TheVariants.{RhsPairs, RangePairs}
use Rattle.model_text.specs.Lines.{lines_of}
use Rattle.mps_reader.specs.Lines.{fields_of, is_blank, is_header}
use Rattle.model_text.specs.Profile.{reader_profile}
use Rattle.mps_draft.specs.Sections.{section_of, may_follow, is_ended, awaits_sense}
use Rattle.mps_draft.specs.Declaration.{Declaration, nothing_declared, in_section}
use Rattle.mps_reader.specs.Sense.{sense_line, sense_on_header}
use Rattle.mps_reader.specs.Steps.{at_end}
use Rattle.mps_reader.specs.RowsAndColumns.{row_line, column_line}
use Rattle.mps_reader.specs.RhsRangesBounds.{pair_line, bound_line}
use Rattle.mps_draft.specs.Finished.{problem_of}

-- ---- headers

-- what follows NAME isn't looked at, OBJSENSE may have its word, and nothing follows another header's word
abbrev pub after_header : Section → List (List ℕ) → Declaration → Result Declaration FaultKind
after_header Start fields d = at_end fields d
after_header NameLine fields d = Ok d
after_header SenseAwaited fields d = sense_on_header fields d
after_header SenseGiven fields d = at_end fields d
after_header Rows fields d = at_end fields d
after_header Columns fields d = at_end fields d
after_header Rhs fields d = at_end fields d
after_header Ranges fields d = at_end fields d
after_header Bounds fields d = at_end fields d
after_header Ended fields d = at_end fields d

-- where the word of OBJSENSE is awaited, no header may come
abbrev pub at_section : Declaration → Option Section → List (List ℕ) → Result Declaration FaultKind
at_section d None fields = Err BadSection
at_section d (Some section) fields =
    if not (may_follow d.section section) then Err BadSection
    else if awaits_sense d.section then Err BadLine
    else after_header section fields (in_section section d)

abbrev pub header_line : Declaration → List (List ℕ) → Result Declaration FaultKind
header_line d [] = Err BadSection
header_line d (word ∷ fields) = at_section d (section_of word) fields

-- ---- lines

-- a data line belongs to the section of the last header
abbrev pub data_line : Profile → Section → Declaration → List (List ℕ) → Result Declaration FaultKind
data_line profile Start d fields = Err BadLine
data_line profile NameLine d fields = Err BadLine
data_line profile SenseAwaited d fields = sense_line fields d
data_line profile SenseGiven d fields = Err BadLine
data_line profile Rows d fields = row_line profile d fields
data_line profile Columns d fields = column_line profile d fields
data_line profile Rhs d fields = pair_line RhsPairs d fields
data_line profile Ranges d fields = pair_line RangePairs d fields
data_line profile Bounds d fields = bound_line d fields
data_line profile Ended d fields = Ok d

-- its first character is `*`
abbrev pub is_comment : List ℕ → Bool
is_comment [] = false
is_comment (b ∷ bs) = is_one_of (codes "*") b

-- comments and lines of blanks
abbrev pub is_passed_over : List ℕ → Bool
is_passed_over line = is_comment line || list_all is_blank line

-- a line that isn't UTF-8 has no fields to judge
abbrev pub text_line : Profile → Declaration → List ℕ → Result Declaration FaultKind
text_line profile d line =
    if not (is_utf8 line) then Err BadLine
    else if is_header line then header_line d (fields_of line)
    else data_line profile d.section d (fields_of line)

-- nothing after ENDATA is read
abbrev pub with_line : Profile → Declaration → List ℕ → Result Declaration FaultKind
with_line profile d line = if is_ended d.section || is_passed_over line then Ok d else text_line profile d line

-- ---- texts

-- line n gave a declaration, from which f goes on, or a fault
abbrev pub at_line : ℕ → (Declaration → Result Declaration FileFault) → Result Declaration FaultKind → Result Declaration FileFault
at_line n f (Ok d) = f d
at_line n f (Err kind) = Err (record { line = n; kind = kind })

-- the declaration after these lines, of which line n is the first
abbrev pub declared_from : Profile → ℕ → Declaration → List (List ℕ) → Result Declaration FileFault
declared_from profile n d [] = if is_ended d.section then Ok d else Err (record { line = n; kind = NoEnd })
declared_from profile n d (line ∷ lines) = at_line n (λ more. declared_from profile (n + 1) more lines) (with_line profile d line)

abbrev pub finished : Result Declaration FileFault → Result Problem FileFault
finished (Ok d) = Ok (problem_of d)
finished (Err fault) = Err fault

abbrev pub declared_within : Profile → List ℕ → Result Problem FileFault
declared_within profile text = finished (declared_from profile 1 nothing_declared (lines_of text))

-- the problem that a text declares, or its first fault
abbrev pub declared : List ℕ → Result Problem FileFault
declared text = declared_within reader_profile text
