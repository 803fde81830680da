-- The objective: `[name ":"] { term }`, where a term is signs, a number and a name; one without a name adds to the constant
-- (GLPK Reference Manual, appendix on the CPLEX LP format: objective function definition).
use Rattle.std.specs.Prelude.{◌&&◌, List, Result, Ok, if◌then◌else◌}
use Rattle.rational.specs.Rational.{Rational, one_ℚ}
use Rattle.fraction.specs.Answers.{add_answer}
use Rattle.model_text.specs.declared.fault.FileFault.{FileFault}
use Rattle.model_text.specs.declared.profile.Profile.{Profile}
use Rattle.cplex_lp_tokens.specs.declared.token.TokenKind.{TokenKind}
use Rattle.cplex_lp_tokens.specs.declared.token.TokenKind.TheVariants.{Word, Literal, Plus, Minus}
use Rattle.cplex_lp_draft.specs.declared.expecting.Sign.{Sign}
use Rattle.cplex_lp_draft.specs.declared.expecting.Sign.TheVariants.{Unsigned}
use Rattle.cplex_lp_draft.specs.declared.expecting.TermPart.{TermPart}
use Rattle.cplex_lp_draft.specs.declared.expecting.TermPart.TheVariants.{Begun, Factor, Done}
use Rattle.cplex_lp_draft.specs.declared.expecting.Expecting.TheVariants.{ObjectiveColon, Objective}
use Rattle.cplex_lp_tokens.specs.Tokens.{Token, is_name, is_colon, is_before_colon, is_before_name}
use Rattle.model_text.specs.Steps.{then_do}
use Rattle.cplex_lp_draft.specs.Steps.{misplaced, fitting_at, number_of}
use Rattle.cplex_lp_draft.specs.Declaration.{Declaration, now_expecting, added, column_place, mentioned}
use Rattle.cplex_lp_draft.specs.Signs.{after_plus, after_minus, signed}

-- v times the column of a name
abbrev pub objective_term : Profile → Declaration → Rational → Token → Result Declaration FileFault
objective_term profile d v t =
    then_do (λ more. then_do (λ form. Ok (record more { objective = form; expecting = Objective Done })) (added t.line (column_place t.text d.columns) v more.objective))
    (mentioned profile t d)

abbrev pub with_constant : Declaration → Rational → Token → Result Declaration FileFault
with_constant d v t =
    then_do (λ sum. Ok (record d { constant = sum; expecting = Objective Done })) (fitting_at t.line (add_answer d.constant v))

-- the number before a name, or a term without a name
abbrev pub objective_number : Declaration → Token → List Token → Rational → Result Declaration FileFault
objective_number d t rest v = if is_before_name rest then Ok (now_expecting (Objective (Factor v)) d) else with_constant d v t

-- where a term is about to begin, or has signs alone
abbrev pub objective_begun : TokenKind → Profile → Declaration → Sign → Token → List Token → Result Declaration FileFault
objective_begun Plus profile d sign t rest = Ok (now_expecting (Objective (Begun (after_plus sign))) d)
objective_begun Minus profile d sign t rest = Ok (now_expecting (Objective (Begun (after_minus sign))) d)
objective_begun Literal profile d sign t rest = then_do (λ v. objective_number d t rest (signed sign v)) (number_of t)
objective_begun Word profile d sign t rest = objective_term profile d (signed sign one_ℚ) t
objective_begun kind profile d sign t rest = misplaced t

-- after the number before a name
abbrev pub objective_factor : TokenKind → Profile → Declaration → Rational → Token → Result Declaration FileFault
objective_factor Word profile d v t = objective_term profile d v t
objective_factor kind profile d v t = misplaced t

-- after a term another begins with a sign
abbrev pub objective_done : TokenKind → Declaration → Token → Result Declaration FileFault
objective_done Plus d t = Ok (now_expecting (Objective (Begun (after_plus Unsigned))) d)
objective_done Minus d t = Ok (now_expecting (Objective (Begun (after_minus Unsigned))) d)
objective_done kind d t = misplaced t

abbrev pub in_objective : TermPart → Profile → Declaration → Token → List Token → Result Declaration FileFault
in_objective (Begun sign) profile d t rest = objective_begun t.kind profile d sign t rest
in_objective (Factor v) profile d t rest = objective_factor t.kind profile d v t
in_objective Done profile d t rest = objective_done t.kind d t

-- a name before a colon is the objective's
abbrev pub at_objective_start : Profile → Declaration → Token → List Token → Result Declaration FileFault
at_objective_start profile d t rest =
    if is_name t.kind && is_before_colon rest then Ok (record d { objective_name = t.text; expecting = ObjectiveColon })
    else objective_begun t.kind profile d Unsigned t rest

abbrev pub at_objective_colon : Declaration → Token → Result Declaration FileFault
at_objective_colon d t = if is_colon t.kind then Ok (now_expecting (Objective (Begun Unsigned)) d) else misplaced t
