-- OBJSENSE: `MAX`, `MAXIMIZE`, `MIN` or `MINIMIZE`, in any case, on the header's line or alone on the next one.
use Rattle.std.specs.Prelude.{ℕ, ◌||◌, Bool, List, [], ◌∷◌, codes, Some, None, Result, Ok, Err, if◌then◌else◌}
use Rattle.std.specs.declared.option.Option.{Option}
use Rattle.std.specs.Str.{str_eq_ignore_ascii_case}
use Rattle.milp.specs.declared.Direction.{Direction}
use Rattle.milp.specs.declared.Direction.TheVariants.{Min, Max}
use Rattle.model_text.specs.declared.fault.FaultKind.{FaultKind}
use Rattle.model_text.specs.declared.fault.FaultKind.TheVariants.{BadLine}
use Rattle.mps_draft.specs.Declaration.{Declaration, with_sense}

abbrev pub is_word : List ℕ → List ℕ → Bool
is_word text word = str_eq_ignore_ascii_case text word

abbrev pub sense_of : List ℕ → Option Direction
sense_of word =
    if is_word word (codes "MAX") || is_word word (codes "MAXIMIZE") then Some Max
    else if is_word word (codes "MIN") || is_word word (codes "MINIMIZE") then Some Min
    else None

abbrev pub with_word : Option Direction → Declaration → Result Declaration FaultKind
with_word None d = Err BadLine
with_word (Some direction) d = Ok (with_sense direction d)

-- the word alone
abbrev pub sense_line : List (List ℕ) → Declaration → Result Declaration FaultKind
sense_line (word ∷ []) d = with_word (sense_of word) d
sense_line fields d = Err BadLine

-- the word behind the header's, or nothing
abbrev pub sense_on_header : List (List ℕ) → Declaration → Result Declaration FaultKind
sense_on_header [] d = Ok d
sense_on_header fields d = sense_line fields d
