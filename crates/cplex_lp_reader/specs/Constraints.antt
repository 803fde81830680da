-- Constraints: `[name ":"] [number relation] term { term } relation number`, where each term has a name
-- (GLPK Reference Manual, appendix on the CPLEX LP format: constraints section).
use Rattle.std.specs.Prelude.{ℕ, ◌+◌, ◌-◌, nat_lt, nat_le, Bool, true, false, List, [], ◌∷◌, ◌++◌, length, codes, Some, None, Result, Ok, if◌then◌else◌}
use Rattle.std.specs.declared.option.Option.{Option}
use Rattle.std.specs.Fmt.{decimal}
use Rattle.rational.specs.Rational.{Rational, one_ℚ}
use Rattle.milp.specs.Problem.{Row}
use Rattle.model_text.specs.declared.fault.FaultKind.TheVariants.{Twice, TooMany}
use Rattle.model_text.specs.declared.fault.FileFault.{FileFault}
use Rattle.model_text.specs.declared.profile.Profile.{Profile}
use Rattle.cplex_lp_tokens.specs.declared.token.Relation.{Relation}
use Rattle.cplex_lp_tokens.specs.declared.token.Relation.TheVariants.{AtMost, AtLeast}
use Rattle.cplex_lp_tokens.specs.declared.token.TokenKind.{TokenKind}
use Rattle.cplex_lp_tokens.specs.declared.token.TokenKind.TheVariants.{Word, Literal, Plus, Minus, Compared}
use Rattle.cplex_lp_draft.specs.declared.expecting.Sign.{Sign}
use Rattle.cplex_lp_draft.specs.declared.expecting.Sign.TheVariants.{Unsigned}
use Rattle.cplex_lp_draft.specs.declared.expecting.TermPart.{TermPart}
use Rattle.cplex_lp_draft.specs.declared.expecting.TermPart.TheVariants.{Begun, Factor, Done}
use Rattle.cplex_lp_draft.specs.declared.expecting.Expecting.{Expecting}
use Rattle.cplex_lp_draft.specs.declared.expecting.Expecting.TheVariants.{RowStart, RowColon, RowFirst, RowNumber, RowTerms, RowRight}
use Rattle.cplex_lp_tokens.specs.Tokens.{Token, is_colon, is_before_colon}
use Rattle.model_text.specs.Steps.{then_do}
use Rattle.cplex_lp_draft.specs.Steps.{fault_at, misplaced, number_of}
use Rattle.cplex_lp_draft.specs.Declaration.{new_row, Declaration, now_expecting, added, entries_of, column_place, mentioned, with_changed}
use Rattle.cplex_lp_draft.specs.Rows.{is_row, blank_row, with_left, with_right, filled, entry_count}
use Rattle.cplex_lp_draft.specs.Signs.{after_plus, after_minus, signed}

-- ---- a row begins

-- the row of this name begins at a line; a name is used once
abbrev pub row_opened : Profile → ℕ → List ℕ → Declaration → Result Declaration FileFault
row_opened profile line name d =
    if is_row name d.rows then fault_at line Twice
    else if nat_le profile.rows (length d.rows) then fault_at line TooMany
    else Ok (record d { rows = d.rows ++ blank_row name ∷ []; open_row = new_row line })

-- row i without a name is `r.i`
abbrev pub default_name : List Row → List ℕ
default_name rows = codes "r." ++ decimal (length rows + 1)

-- a row without a name begins at a line
abbrev pub unnamed_row : Profile → ℕ → Declaration → Result Declaration FileFault
unnamed_row profile line d = row_opened profile line (default_name d.rows) d

-- the same, and another token comes
abbrev pub unnamed_row_at : Expecting → Profile → ℕ → Declaration → Result Declaration FileFault
unnamed_row_at next profile line d = then_do (λ opened. Ok (now_expecting next opened)) (unnamed_row profile line d)

-- ---- terms

-- v times the column of a name
abbrev pub row_term : Profile → Rational → Token → Declaration → Result Declaration FileFault
row_term profile v t d =
    then_do (λ more. then_do (λ form. Ok (record more { open_row = record more.open_row { form = form }; expecting = RowTerms Done })) (added t.line (column_place t.text d.columns) v more.open_row.form))
    (mentioned profile t d)

-- where a term is about to begin, or has signs alone
abbrev pub row_begun : TokenKind → Profile → Declaration → Sign → Token → Result Declaration FileFault
row_begun Plus profile d sign t = Ok (now_expecting (RowTerms (Begun (after_plus sign))) d)
row_begun Minus profile d sign t = Ok (now_expecting (RowTerms (Begun (after_minus sign))) d)
row_begun Literal profile d sign t = then_do (λ v. Ok (now_expecting (RowTerms (Factor (signed sign v))) d)) (number_of t)
row_begun Word profile d sign t = row_term profile (signed sign one_ℚ) t d
row_begun kind profile d sign t = misplaced t

-- after the number before a name
abbrev pub row_factor : TokenKind → Profile → Declaration → Rational → Token → Result Declaration FileFault
row_factor Word profile d v t = row_term profile v t d
row_factor kind profile d v t = misplaced t

-- two relations have the same direction, and neither is `=`
abbrev pub may_follow : Option Relation → Relation → Bool
may_follow None relation = true
may_follow (Some AtMost) AtMost = true
may_follow (Some AtLeast) AtLeast = true
may_follow left relation = false

-- after a term another begins with a sign, or the row's right side with a relation
abbrev pub row_done : TokenKind → Declaration → Token → Result Declaration FileFault
row_done Plus d t = Ok (now_expecting (RowTerms (Begun (after_plus Unsigned))) d)
row_done Minus d t = Ok (now_expecting (RowTerms (Begun (after_minus Unsigned))) d)
row_done (Compared relation) d t = if may_follow d.open_row.left relation then Ok (now_expecting (RowRight relation Unsigned) d) else misplaced t
row_done kind d t = misplaced t

abbrev pub in_row_terms : TermPart → Profile → Declaration → Token → Result Declaration FileFault
in_row_terms (Begun sign) profile d t = row_begun t.kind profile d sign t
in_row_terms (Factor v) profile d t = row_factor t.kind profile d v t
in_row_terms Done profile d t = row_done t.kind d t

-- ---- the first tokens

-- a name before a colon is the row's, and another is that of its first term
abbrev pub at_row_name : Profile → Declaration → Token → List Token → Result Declaration FileFault
at_row_name profile d t rest =
    if is_before_colon rest then then_do (λ opened. Ok (now_expecting RowColon opened)) (row_opened profile t.line t.text d)
    else then_do (row_term profile one_ℚ t) (unnamed_row profile t.line d)

abbrev pub at_row_start : TokenKind → Profile → Declaration → Token → List Token → Result Declaration FileFault
at_row_start Word profile d t rest = at_row_name profile d t rest
at_row_start Plus profile d t rest = unnamed_row_at (RowFirst (after_plus Unsigned)) profile t.line d
at_row_start Minus profile d t rest = unnamed_row_at (RowFirst (after_minus Unsigned)) profile t.line d
at_row_start Literal profile d t rest = then_do (λ v. unnamed_row_at (RowNumber v) profile t.line d) (number_of t)
at_row_start kind profile d t rest = misplaced t

abbrev pub at_row_colon : Declaration → Token → Result Declaration FileFault
at_row_colon d t = if is_colon t.kind then Ok (now_expecting (RowFirst Unsigned) d) else misplaced t

-- where the first term or the number on the left is about to begin, or has signs alone
abbrev pub at_row_first : TokenKind → Profile → Declaration → Sign → Token → Result Declaration FileFault
at_row_first Plus profile d sign t = Ok (now_expecting (RowFirst (after_plus sign)) d)
at_row_first Minus profile d sign t = Ok (now_expecting (RowFirst (after_minus sign)) d)
at_row_first Literal profile d sign t = then_do (λ v. Ok (now_expecting (RowNumber (signed sign v)) d)) (number_of t)
at_row_first Word profile d sign t = row_term profile (signed sign one_ℚ) t d
at_row_first kind profile d sign t = misplaced t

-- after a row's first number a name or a relation comes, which isn't `=`
abbrev pub at_row_number : TokenKind → Profile → Declaration → Rational → Token → Result Declaration FileFault
at_row_number Word profile d v t = row_term profile v t d
at_row_number (Compared AtMost) profile d v t = Ok (with_left d v AtMost)
at_row_number (Compared AtLeast) profile d v t = Ok (with_left d v AtLeast)
at_row_number kind profile d v t = misplaced t

-- ---- a row ends

-- the last row is read to its end; entries past their limit are a fault of its first line
abbrev pub row_closed : Profile → Declaration → Result Declaration FileFault
row_closed profile d =
    if nat_lt profile.entries (entry_count d.rows + length (entries_of d.open_row.form)) then fault_at d.open_row.line TooMany
    else Ok (record d { rows = with_changed (length d.rows - 1) (filled d.open_row) d.rows; expecting = RowStart })

-- where the number on the right is about to come, or has signs alone
abbrev pub at_row_right : TokenKind → Profile → Declaration → Relation → Sign → Token → Result Declaration FileFault
at_row_right Plus profile d relation sign t = Ok (now_expecting (RowRight relation (after_plus sign)) d)
at_row_right Minus profile d relation sign t = Ok (now_expecting (RowRight relation (after_minus sign)) d)
at_row_right Literal profile d relation sign t =
    then_do (λ v. row_closed profile (with_right d (signed sign v) relation)) (number_of t)
at_row_right kind profile d relation sign t = misplaced t
