-- Sums and differences of forms.
use Rattle.std.specs.Prelude.{Ok, Some, None, [], ◌∷◌}
use Rattle.std.specs.declared.option.Option.{Option}
use Rattle.indexmap.specs.IndexMap.{insert_entry}
use Rattle.rational.specs.Rational.{Rational}
use Rattle.fraction.specs.Answers.{add_answer, sub_answer}
use Rattle.gmpl_value.specs.Outcome.{Outcome, fitting, then_do}
use Rattle.gmpl_functions.specs.declared.terms.Sign.{Sign}
use Rattle.gmpl_functions.specs.declared.terms.Sign.TheVariants.{Plus, Minus}
use Rattle.gmpl_functions.specs.declared.variable.Variable.{Variable}
use Rattle.gmpl_functions.specs.Linear.{Linear, Terms, coefficient_of, linear, variable_eq}

abbrev pub operation : Sign → Rational → Rational → Outcome Rational
operation Plus a b = fitting (add_answer a b)
operation Minus a b = fitting (sub_answer a b)

-- a member's coefficient is changed in its place; a new member, which had 0, stands at the end
abbrev pub put : Sign → Terms → Variable → Rational → Outcome Terms
put sign terms v change = then_do (λ q. Ok (insert_entry variable_eq terms v q)) (operation sign (coefficient_of terms v) change)

-- the same where there is a term
abbrev pub put_found : Sign → Terms → Option (Variable × Rational) → Outcome Terms
put_found sign terms None = Ok terms
put_found sign terms (Some t) = put sign terms t.0 t.1

-- the terms of the second in order
abbrev pub put_all : Sign → Terms → Terms → Outcome Terms
put_all sign terms [] = Ok terms
put_all sign terms (t ∷ ts) = then_do (λ more. put_all sign more ts) (put sign terms t.0 t.1)

-- the terms, and then the constants
abbrev pub combined : Sign → Linear → Linear → Outcome Linear
combined sign f g = then_do (λ terms. then_do (λ c. Ok (linear terms c)) (operation sign f.constant g.constant)) (put_all sign f.terms g.terms)
