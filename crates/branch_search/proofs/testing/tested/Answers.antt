use Rattle.std.proofs.Common.{◌≡◌, ◌∙◌, ap, subst, true, false, Some, Ok}
use Rattle.milp.specs.Points.{objective_value}
use Rattle.verdicts.specs.Certificate.{Weights, Bound}
use Rattle.cert_check.specs.Parts.{node_answer}
use Rattle.cert_check.specs.Outcome.{form_goal}
use Rattle.search_tree.specs.Work.{node_setting}
use Rattle.search_tree.proofs.CheckLaws.{own_test}
use Rattle.branch_search.proofs.testing.tested.Goals as goal

pub optimal-requires-clause-passes : goal.optimal-requires-clause-passes
optimal-requires-clause-passes c =
    let f = c.args.found in
    own_test c.args.problem.now c.args.cuts.now c.args.path.now f.point c.args.weights c.in-Ok.values.form c.shows_none_better.result (Ok true) c.in-Ok.ensures.form c.shows_none_better.ensures (c.in-Ok-true.is ∙ ap Ok c.in-Ok-true.field-0-test)

pub optimal-requires-clause-relaxed : goal.optimal-requires-clause-relaxed
optimal-requires-clause-relaxed c =
    let f = c.args.found in
    c.optimal_points.ensures.tested c.args.problem.now c.args.cuts.now c.args.path.now f.point c.args.weights c.is_of_columns.ensures c.requires.point
    (own_test c.args.problem.now c.args.cuts.now c.args.path.now f.point c.args.weights c.in-Ok.values.form c.shows_none_better.result (Ok true) c.in-Ok.ensures.form c.shows_none_better.ensures (c.in-Ok-true.is ∙ ap Ok c.in-Ok-true.field-0-test))

pub returns-in-Ok-false : goal.returns-in-Ok-false
returns-in-Ok-false c =
    let f = c.args.found in
    let P : Weights → Type 0 = λ w. node_answer (node_setting c.args.problem.now c.args.cuts.now c.args.path.now) (form_goal c.args.problem.now (Some (objective_value c.args.problem.now f.point))) (Bound w) ≡ Ok false in
    subst P c.requires.named
    (own_test c.args.problem.now c.args.cuts.now c.args.path.now f.point c.args.weights c.in-Ok.values.form c.shows_none_better.result (Ok false) c.in-Ok.ensures.form c.shows_none_better.ensures (c.in-Ok-false.is ∙ ap Ok c.in-Ok-false.field-0-test))
