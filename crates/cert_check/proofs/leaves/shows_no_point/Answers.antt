use Rattle.std.proofs.Common.{◌≡◌, ◌∙◌, ap, subst, None}
use Rattle.milp.specs.Problem.{Problem}
use Rattle.verdicts.specs.Certificate.{Two, Weights, Empty}
use Rattle.cert_check.specs.Parts.{node_answer}
use Rattle.cert_check.specs.Setting.{Setting}
use Rattle.cert_check.specs.Walk.{Place, sides_to}
use Rattle.cert_check.proofs.leaves.shows_no_point.Goals as goal

pub returns : goal.returns
returns c =
    let setting : Problem → Place → Setting = λ p w. record { version = Two; problem = p; derived = c.args.derived.now; sides = sides_to w } in
    let P : Setting → Type 0 = λ s. c.empty_passes.result ≡ node_answer s None (Empty c.args.weights.now) in
    let W : Weights → Type 0 = λ w. c.empty_passes.result ≡ node_answer c.of_node-setting.result None (Empty w) in
    subst P (c.of_node-setting.ensures ∙ ap (λ p. setting p c.to-way.result) c.by_row-problem.ensures ∙ ap (setting c.args.problem.now) c.to-way.ensures) (subst W c.of_leaf.ensures c.empty_passes.ensures)
