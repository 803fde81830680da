-- The lines of a text, which line feeds end, and what is read of one.
use Rattle.std.specs.Prelude.{ℕ, ◌+◌, ◌==◌, Bool, true, false, not, ◌&&◌, List, [], ◌∷◌, Result, Ok, Err, codes, if◌then◌else◌}
use Rattle.std.specs.List.{slice_split}
use Rattle.fraction.specs.Literal.{code}
use Rattle.certificate_lines.specs.Fields.{◌>>=◌, fields_of}
use Rattle.certificate_lines.specs.declared.fault.FaultKind.{FaultKind}
use Rattle.certificate_lines.specs.declared.fault.FaultKind.TheVariants.{BadLine, Unended}
use Rattle.certificate_lines.specs.declared.fault.CertFault.{CertFault}

abbrev pub is_feed : ℕ → Bool
is_feed c = c == code (codes "\n")

-- what is left of a text: the number of its next line, and its pieces between line feeds
pub record Rest : Type 0 where
  pub line : ℕ
  pub pieces : List (List ℕ)

-- the pieces of a text, unless its last line is read
abbrev pub pieces_left : Bool → List ℕ → List (List ℕ)
pieces_left more bytes = if more then slice_split is_feed bytes else []

pub record Line : Type 0 where
  pub number : ℕ
  pub text : List ℕ
  pub feed : Bool

abbrev pub is_nil : {A : Type 0} → List A → Bool
is_nil [] = true
is_nil (x ∷ xs) = false

abbrev pub fault_at : {A : Type 0} → ℕ → FaultKind → Result A CertFault
fault_at n kind = Err (record { line = n; kind = kind })

-- a piece is a line; a line feed ends it where another piece follows, and an empty last piece is no line
abbrev pub line_of : ℕ → List ℕ → List (List ℕ) → Result Line CertFault
line_of n piece pieces =
    if is_nil piece && is_nil pieces then fault_at n Unended
    else Ok (record { number = n; text = piece; feed = not (is_nil pieces) })

abbrev pub next_from : ℕ → List (List ℕ) → Result (Line × Rest) CertFault
next_from n [] = fault_at n Unended
next_from n (piece ∷ pieces) = line_of n piece pieces >>= λ line. Ok (line, record { line = n + 1; pieces = pieces })

abbrev pub next_of : Rest → Result (Line × Rest) CertFault
next_of rest = next_from rest.line rest.pieces

-- what a line's fields are read as, where a line feed ends it
abbrev pub closed : {A : Type 0} → Line → Result A FaultKind → Result A CertFault
closed line (Ok x) = if line.feed then Ok x else fault_at line.number BadLine
closed line (Err kind) = fault_at line.number kind

-- the next line, its fields read by f
abbrev pub line_by : {A : Type 0} → (List (List ℕ) → Result A FaultKind) → Rest → Result (A × Rest) CertFault
line_by f rest = next_of rest >>= λ line. closed line.0 (f (fields_of line.0.text)) >>= λ x. Ok (x, line.1)

-- no line is left
abbrev pub is_over : List (List ℕ) → Bool
is_over [] = true
is_over (piece ∷ pieces) = is_nil piece && is_nil pieces
