-- What the first token of a statement announces (GNU MathProg Language Reference, chapter on statements).
use Rattle.std.specs.Prelude.{ℕ, Bool, List, Option, Some, if◌then◌else◌, codes}
use Rattle.std.specs.Str.{bytes_eq}
use Rattle.gmpl_token.specs.declared.kind.TokenKind.{TokenKind}
use Rattle.gmpl_token.specs.declared.kind.TokenKind.TheVariants as k
use Rattle.gmpl_words.specs.declared.statements.Beginning.{Beginning}
use Rattle.gmpl_words.specs.declared.statements.Beginning.TheVariants as b

-- a statement that a `for` may hold, or a name that is no statement's word: it begins a constraint
abbrev pub action_or_name : List ℕ → Beginning
action_or_name text =
    if bytes_eq text (codes "check") then b.Check
    else if bytes_eq text (codes "display") then b.Display
    else if bytes_eq text (codes "printf") then b.Printf
    else if bytes_eq text (codes "for") then b.For
    else if bytes_eq text (codes "table") then b.Table
    else b.Name

abbrev pub name_beginning : List ℕ → Beginning
name_beginning text =
    if bytes_eq text (codes "set") then b.Set
    else if bytes_eq text (codes "param") then b.Param
    else if bytes_eq text (codes "var") then b.Var
    else if bytes_eq text (codes "subject") then b.Subject
    else if bytes_eq text (codes "subj") then b.Subject
    else if bytes_eq text (codes "minimize") then b.Minimize
    else if bytes_eq text (codes "maximize") then b.Maximize
    else if bytes_eq text (codes "solve") then b.Solve
    else action_or_name text

abbrev pub begins_with : Option TokenKind → List ℕ → Beginning
begins_with (Some k.SubjectTo) text = b.SubjectTo
begins_with (Some k.Name) text = name_beginning text
begins_with _ text = b.Nothing

-- ---- words inside statements

-- behind `subject` and `subj`
abbrev pub is_to : List ℕ → Bool
is_to text = bytes_eq text (codes "to")

-- before the driver of a table
abbrev pub is_input : List ℕ → Bool
is_input text = bytes_eq text (codes "IN")

abbrev pub is_output : List ℕ → Bool
is_output text = bytes_eq text (codes "OUT")

-- ---- the statements' end

abbrev pub is_end : List ℕ → Bool
is_end text = bytes_eq text (codes "end")

abbrev pub is_data : List ℕ → Bool
is_data text = bytes_eq text (codes "data")
