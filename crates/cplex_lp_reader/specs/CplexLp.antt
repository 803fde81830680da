-- The problem that a CPLEX LP text declares, or its first fault.
use Rattle.std.specs.Prelude.{ℕ, ◌+◌, Bool, List, [], ◌∷◌, length, Result, Ok, if◌then◌else◌}
use Rattle.milp.specs.Problem.{Problem}
use Rattle.milp.specs.declared.Direction.{Direction}
use Rattle.milp.specs.declared.Direction.TheVariants.{Min, Max}
use Rattle.model_text.specs.declared.fault.FaultKind.TheVariants.{BadLine}
use Rattle.model_text.specs.declared.fault.FileFault.{FileFault}
use Rattle.model_text.specs.declared.profile.Profile.{Profile}
use Rattle.cplex_lp_tokens.specs.declared.token.TokenKind.{TokenKind}
use Rattle.cplex_lp_tokens.specs.declared.token.TokenKind.TheVariants.{SectionWords}
use Rattle.cplex_lp_tokens.specs.declared.token.Section.{Section}
use Rattle.cplex_lp_tokens.specs.declared.token.Section.TheVariants.{Minimize, Maximize, Constraints, Bounds, General, Binary, End}
use Rattle.cplex_lp_draft.specs.declared.expecting.Expecting.{Expecting}
use Rattle.cplex_lp_draft.specs.declared.expecting.Expecting.TheVariants as expecting
use Rattle.model_text.specs.Profile.{reader_profile}
use Rattle.model_text.specs.Lines.{lines_of}
use Rattle.cplex_lp_tokens.specs.Tokens.{Token, tokens_of}
use Rattle.model_text.specs.Steps.{then_do}
use Rattle.cplex_lp_draft.specs.Steps.{fault_at, misplaced}
use Rattle.cplex_lp_draft.specs.Expecting.{ends_objective, ends_section, is_start, is_ended}
use Rattle.cplex_lp_draft.specs.Declaration.{Declaration, nothing_declared, now_expecting, problem_of}
use Rattle.cplex_lp_reader.specs.Objective.{in_objective, at_objective_start, at_objective_colon}
use Rattle.cplex_lp_reader.specs.Constraints.{in_row_terms, at_row_start, at_row_colon, at_row_first, at_row_number, at_row_right}
use Rattle.cplex_lp_reader.specs.Bounds.{at_bound_start, at_bound_left, at_bound_relation, at_bound_name, at_bound_compared, at_bound_named, at_bound_right, at_general, at_binary}

-- ---- sections: the objective, then the constraints, then the others in any order and number

-- another section begins, if it may
abbrev pub entered : Bool → Expecting → Declaration → Token → Result Declaration FileFault
entered may next d t = if may then Ok (now_expecting next d) else misplaced t

-- the objective comes first
abbrev pub directed : Direction → Declaration → Token → Result Declaration FileFault
directed direction d t = if is_start d.expecting then Ok (record d { direction = direction; expecting = expecting.ObjectiveStart }) else misplaced t

abbrev pub at_section : Section → Declaration → Token → Result Declaration FileFault
at_section Minimize d t = directed Min d t
at_section Maximize d t = directed Max d t
at_section Constraints d t = entered (ends_objective d.expecting) expecting.RowStart d t
at_section Bounds d t = entered (ends_section d.expecting) expecting.BoundStart d t
at_section General d t = entered (ends_section d.expecting) expecting.Generals d t
at_section Binary d t = entered (ends_section d.expecting) expecting.Binaries d t
at_section End d t = entered (ends_section d.expecting) expecting.Ended d t

-- ---- tokens

-- a token inside a section, by where it stands, and those that follow it
abbrev pub in_section : Expecting → Profile → Declaration → Token → List Token → Result Declaration FileFault
in_section expecting.Start profile d t rest = misplaced t
in_section expecting.ObjectiveStart profile d t rest = at_objective_start profile d t rest
in_section expecting.ObjectiveColon profile d t rest = at_objective_colon d t
in_section (expecting.Objective p) profile d t rest = in_objective p profile d t rest
in_section expecting.RowStart profile d t rest = at_row_start t.kind profile d t rest
in_section expecting.RowColon profile d t rest = at_row_colon d t
in_section (expecting.RowFirst sign) profile d t rest = at_row_first t.kind profile d sign t
in_section (expecting.RowNumber v) profile d t rest = at_row_number t.kind profile d v t
in_section (expecting.RowTerms p) profile d t rest = in_row_terms p profile d t
in_section (expecting.RowRight relation sign) profile d t rest = at_row_right t.kind profile d relation sign t
in_section expecting.BoundStart profile d t rest = at_bound_start t.kind profile d t
in_section (expecting.BoundLeft sign) profile d t rest = at_bound_left t.kind d sign t
in_section (expecting.BoundRelation limit) profile d t rest = at_bound_relation t.kind d limit t
in_section (expecting.BoundName limit relation) profile d t rest = at_bound_name t.kind profile d limit relation t
in_section (expecting.BoundNamed column) profile d t rest = at_bound_named t.kind profile d column t
in_section (expecting.BoundCompared column) profile d t rest = at_bound_compared t.kind profile d column t
in_section (expecting.BoundRight column relation sign) profile d t rest = at_bound_right t.kind d column relation sign t
in_section expecting.Generals profile d t rest = at_general t.kind profile d t
in_section expecting.Binaries profile d t rest = at_binary t.kind profile d t
in_section expecting.Ended profile d t rest = Ok d

abbrev pub by_kind : TokenKind → Profile → Declaration → Token → List Token → Result Declaration FileFault
by_kind (SectionWords section) profile d t rest = at_section section d t
by_kind kind profile d t rest = in_section d.expecting profile d t rest

-- nothing after the end is read
abbrev pub with_token : Profile → Declaration → Token → List Token → Result Declaration FileFault
with_token profile d t rest = if is_ended d.expecting then Ok d else by_kind t.kind profile d t rest

-- ---- texts

-- a missing `end` is accepted; another fault at the text's end is at the line after the last
abbrev pub at_end : ℕ → Declaration → Result Declaration FileFault
at_end line d = if is_ended d.expecting then Ok d else if ends_section d.expecting then Ok d else fault_at line BadLine

-- the declaration after these tokens of a text whose end is at this line
abbrev pub declared_from : Profile → ℕ → Declaration → List Token → Result Declaration FileFault
declared_from profile end d [] = at_end end d
declared_from profile end d (t ∷ rest) = then_do (λ more. declared_from profile end more rest) (with_token profile d t rest)

abbrev pub end_line : List ℕ → ℕ
end_line text = length (lines_of text) + 1

abbrev pub declared_within : Profile → List ℕ → Result Problem FileFault
declared_within profile text =
    then_do (λ d. Ok (problem_of d)) (declared_from profile (end_line text) nothing_declared (tokens_of text))

-- the problem that a text declares, or its first fault
abbrev pub declared : List ℕ → Result Problem FileFault
declared text = declared_within reader_profile text
