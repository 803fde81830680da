use Rattle.std.proofs.Common.{◌≡◌, List, Ok, length, sym, subst}
use Rattle.rational.specs.Rational.{Rational}
use Rattle.milp.specs.Problem.{Problem}
use Rattle.verdicts.specs.WeightedSums.{coefficient_of}
use Rattle.cert_check.specs.Sums.{weight_products, are_forms}
use Rattle.cert_check.specs.Totals.{AreTotals}
use Rattle.cert_check.specs.Parts.{signed_by}
use Rattle.cert_check.proofs.forms.is_form.Goals as goal

pub returns-in-Some : goal.returns-in-Some
returns-in-Some c =
    let s = c.args.setting.now in
    let w = c.args.weights.now in
    let T : List Rational → Type 0 = λ totals. AreTotals (length s.problem.columns) (weight_products s w) totals in
    let P : Problem → Type 0 = λ p. AreTotals (length p.columns) (weight_products s w) c.deref.result.now → Ok c.are_wanted.result ≡ are_forms (weight_products s w) (λ j. signed_by c.args.sign (coefficient_of c.args.wanted.now j)) 0 p.columns in
    subst P c.problem.ensures (c.are_wanted.ensures (weight_products s w)) (subst T (sym c.deref.ensures.value) c.in-Some.ensures)
