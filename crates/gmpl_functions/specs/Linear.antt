-- Linear forms over the members of variables.
use Rattle.std.specs.Prelude.{Bool, List, [], ◌∷◌}
use Rattle.std.specs.Option.{unwrap_or}
use Rattle.std.specs.Map.{lookup}
use Rattle.rational.specs.Rational.{Rational, zero_ℚ}
use Rattle.gmpl_functions.specs.declared.form_terms.FormTerms.{FormTerms}
use Rattle.gmpl_functions.specs.declared.form_terms.FormTerms.TheVariants.{One, Many}
use Rattle.gmpl_functions.specs.declared.variable.Variable.{Variable}
use Rattle.gmpl_functions.specs.contracts.variable.VariablePartialEq.TheImpl as impl

-- the same statement, and equal subscripts
abbrev pub variable_eq : Variable → Variable → Bool
variable_eq = (impl.ghosts).eq

abbrev pub Terms : Type 0
Terms = List (Variable × Rational)

-- the terms, a member at most once, in the order of first mention; a coefficient may be 0
pub record Linear : Type 0 where
  pub terms : Terms
  pub constant : Rational

abbrev pub linear : Terms → Rational → Linear
linear terms constant = record { terms = terms; constant = constant }

-- 0 where the member has none
abbrev pub coefficient_of : Terms → Variable → Rational
coefficient_of terms v = unwrap_or (lookup (variable_eq v) terms) zero_ℚ

-- the terms that are kept so
abbrev pub terms_seen : FormTerms → Terms
terms_seen (One v c) = (v, c) ∷ []
terms_seen (Many terms) = terms.entries
