-- Forms with each coefficient changed alike, zeros too.
use Rattle.std.specs.Prelude.{ℕ, zero, suc, Ok, Some, None, slice_get, [], ◌∷◌}
use Rattle.std.specs.declared.option.Option.{Option}
use Rattle.rational.specs.Rational.{Rational, neg_ℚ, zero_ℚ}
use Rattle.fraction.specs.Answers.{mul_answer}
use Rattle.gmpl_value.specs.Outcome.{Outcome, fitting, then_do}
use Rattle.gmpl_functions.specs.Numbers.{quotient_of}
use Rattle.gmpl_functions.specs.declared.scaling.Scaling.{Scaling}
use Rattle.gmpl_functions.specs.declared.scaling.Scaling.TheVariants.{By, Of, Over, Negated}
use Rattle.gmpl_functions.specs.declared.variable.Variable.{Variable}
use Rattle.gmpl_functions.specs.Linear.{Linear, Terms, linear}

abbrev pub scaled_number : Scaling → Rational → Outcome Rational
scaled_number (By q) c = fitting (mul_answer c q)
scaled_number (Of q) c = fitting (mul_answer q c)
scaled_number (Over q) c = quotient_of c q
scaled_number Negated c = Ok (neg_ℚ c)

abbrev pub scaled_terms : Scaling → Terms → Outcome Terms
scaled_terms s [] = Ok []
scaled_terms s (t ∷ ts) = then_do (λ c. then_do (λ more. Ok ((t.0, c) ∷ more)) (scaled_terms s ts)) (scaled_number s t.1)

abbrev pub coefficient_found : Option (Variable × Rational) → Rational
coefficient_found None = zero_ℚ
coefficient_found (Some t) = t.1

-- the coefficient at a place, and 0 past the end
abbrev pub value_at : Terms → ℕ → Rational
value_at ts i = coefficient_found (slice_get ts i)

-- the terms with another coefficient at a place
abbrev pub with_value_at : Terms → ℕ → Rational → Terms
with_value_at [] i c = []
with_value_at (t ∷ ts) zero c = (t.0, c) ∷ ts
with_value_at (t ∷ ts) (suc i) c = t ∷ with_value_at ts i c

-- the terms in order, and then the constant
abbrev pub scaled : Scaling → Linear → Outcome Linear
scaled s f = then_do (λ terms. then_do (λ c. Ok (linear terms c)) (scaled_number s f.constant)) (scaled_terms s f.terms)
