use Rattle.std.proofs.Common.{◌≡◌, ◌∙◌, Ok, Some, Result, Bool, rules, sym, ap}
use Rattle.fraction.specs.declared.frac.NoFit.{NoFit}
use Rattle.verdicts.specs.Proves.{Value}
use Rattle.cert_check.specs.Parts.{goal_answer}
use Rattle.cert_check.specs.Outcome.{judged, outcome, outcome_of, tree_trials, form_goal}
use Rattle.cert_check.proofs.Trials.{goal_is, value_holds}
use Rattle.cert_check.proofs.checking.check_value.Goals as goal

pub returns-in-Ok-Some : goal.returns-in-Ok-Some
returns-in-Ok-Some c =
    let p = c.args.problem.now in
    let cert = c.args.certificate.now in
    let found : Ok (Some c.in-Ok-Some.goal) ≡ goal_answer p cert.point cert.value = search rules in
    let tree : outcome_of c.check_tree.result ≡ outcome (tree_trials p (Some c.in-Ok-Some.goal) cert) = search rules in
    let same : form_goal p cert.value ≡ Some c.in-Ok-Some.goal = goal_is p cert.point cert.value c.in-Ok-Some.goal found in
    let after : outcome_of c.check_tree.result ≡ outcome (tree_trials p (form_goal p cert.value) cert) = tree ∙ ap (λ g. outcome (tree_trials p g cert)) (sym same) in
    after ∙ sym (ap (λ (r : Result Bool NoFit). judged Value r (outcome (tree_trials p (form_goal p cert.value) cert))) (value_holds p cert.point cert.value c.in-Ok-Some.goal found))
