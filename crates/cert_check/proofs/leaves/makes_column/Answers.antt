use Rattle.std.proofs.Common.{◌≡◌, ◌∙◌, [], ◌∷◌, ap, subst}
use Rattle.milp.specs.Problem.{Problem}
use Rattle.verdicts.specs.Certificate.{One, Weights}
use Rattle.verdicts.specs.WeightedSums.{coefficient_of}
use Rattle.cert_check.specs.Sums.{weight_products, are_forms}
use Rattle.cert_check.specs.Setting.{Setting}
use Rattle.cert_check.specs.Walk.{Place, sides_to}
use Rattle.cert_check.proofs.Making.{column_made}
use Rattle.cert_check.proofs.leaves.makes_column.Goals as goal

pub returns : goal.returns
returns c =
    let setting : Problem → Place → Setting = λ p w. record { version = One; problem = p; derived = c.args.derived.now; sides = sides_to w } in
    let same = c.of_node-setting.ensures ∙ ap (λ p. setting p c.at-way.result) c.by_row-problem.ensures ∙ ap (setting c.args.problem.now) c.at-way.ensures in
    column_made c.of_node-setting.result (setting c.args.problem.now (record { nodes = c.args.tree.now; place = c.args.place })) c.args.weights.now c.args.column c.one.result c.is_form.result c.rows-rows.ensures.written.splits same c.one.ensures (subst (λ (w : Weights). c.is_form.result ≡ are_forms (weight_products c.of_node-setting.result w) (coefficient_of (record { column = c.args.column; coefficient = c.one.result } ∷ [])) 0 c.of_node-setting.result.problem.columns) c.without_splits.ensures c.is_form.ensures)
