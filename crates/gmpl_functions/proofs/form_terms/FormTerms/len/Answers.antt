use Rattle.std.proofs.Common.{map, subst, sym}
use Rattle.std.specs.List.{IsDistinct}
use Rattle.gmpl_functions.specs.declared.form_terms.FormTerms.{FormTerms}
use Rattle.gmpl_functions.specs.Linear.{terms_seen, variable_eq}
use Rattle.gmpl_functions.proofs.PutSteps.{one_distinct}
use Rattle.gmpl_functions.proofs.form_terms.FormTerms.len.Goals as goal

pub returns-in-One-clause-distinct : goal.returns-in-One-clause-distinct
returns-in-One-clause-distinct c = subst (λ (t : FormTerms). IsDistinct variable_eq (map (λ e. e.0) (terms_seen t))) (sym c.in-One.is) (one_distinct c.in-One.field-0)
