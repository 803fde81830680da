use Rattle.std.proofs.Common.{◌≡◌, ◌∙◌, List, ap, sym, subst}
use Rattle.milp.specs.Form.{sum_at}
use Rattle.verdicts.specs.Certificate.{Side as SideOf}
use Rattle.basis.specs.Node.{IsNodePoint}
use Rattle.search_tree.specs.Nodes.{IsRelaxedOptimum}
use Rattle.search_tree.specs.Optimum.{IsShownOptimum}
use Rattle.search_tree.proofs.OwnValues.{if_passed, if_failed, if_fault}
use Rattle.search_tree.proofs.optimum.is_optimal.Goals as goal

pub returns-clause-optimum : goal.returns-clause-optimum
returns-clause-optimum c =
    let p = c.args.problem.now in
    let ds = c.args.cuts.now in
    let x = c.args.point.now in
    let P : List SideOf → Type 0 = λ sides. IsNodePoint p ds sides x in
    let point : IsNodePoint p ds c.args.path.now x = subst P (sym c.requires) (c.in_ok-is_node_point.ensures.yes c.if-not-branch.false) in
    let value : c.in_ok-value.value ≡ sum_at x p.objective = c.in_ok-value.ensures.is_sum ∙ ap (λ y. sum_at y c.as_slice.result.now) c.as_slice-2.ensures ∙ ap (sum_at x) (c.as_slice.ensures ∙ c.objective.ensures.form) in
    if_passed p ds c.args.path.now x c.args.weights.now c.in_ok-value.value c.shows_none_better.result (IsRelaxedOptimum p ds c.args.path.now x) value c.shows_none_better.ensures
    (λ passes. c.optimal_points.ensures.tested p ds c.args.path.now x c.args.weights.now c.is_of_columns.ensures point passes)

pub returns-clause-yes : goal.returns-clause-yes
returns-clause-yes c =
    let p = c.args.problem.now in
    let ds = c.args.cuts.now in
    let x = c.args.point.now in
    let P : List SideOf → Type 0 = λ sides. IsNodePoint p ds sides x in
    let point : IsNodePoint p ds c.args.path.now x = subst P (sym c.requires) (c.in_ok-is_node_point.ensures.yes c.if-not-branch.false) in
    let value : c.in_ok-value.value ≡ sum_at x p.objective = c.in_ok-value.ensures.is_sum ∙ ap (λ y. sum_at y c.as_slice.result.now) c.as_slice-2.ensures ∙ ap (sum_at x) (c.as_slice.ensures ∙ c.objective.ensures.form) in
    if_passed p ds c.args.path.now x c.args.weights.now c.in_ok-value.value c.shows_none_better.result (IsShownOptimum p ds c.args.path.now x c.args.weights.now) value c.shows_none_better.ensures
    (λ passes. record { point = point; passes = passes })

pub returns-clause-no : goal.returns-clause-no
returns-clause-no c =
    let x = c.args.point.now in
    let value : c.in_ok-value.value ≡ sum_at x c.args.problem.now.objective = c.in_ok-value.ensures.is_sum ∙ ap (λ y. sum_at y c.as_slice.result.now) c.as_slice-2.ensures ∙ ap (sum_at x) (c.as_slice.ensures ∙ c.objective.ensures.form) in
    if_failed c.args.problem.now c.args.cuts.now c.args.path.now x c.args.weights.now c.in_ok-value.value c.shows_none_better.result value c.shows_none_better.ensures

pub returns-clause-fault : goal.returns-clause-fault
returns-clause-fault c =
    let x = c.args.point.now in
    let value : c.in_ok-value.value ≡ sum_at x c.args.problem.now.objective = c.in_ok-value.ensures.is_sum ∙ ap (λ y. sum_at y c.as_slice.result.now) c.as_slice-2.ensures ∙ ap (sum_at x) (c.as_slice.ensures ∙ c.objective.ensures.form) in
    if_fault c.args.problem.now c.args.cuts.now c.args.splits.now c.args.path.now x c.args.weights.now c.in_ok-value.value c.shows_none_better.result c.requires value c.shows_none_better.ensures
