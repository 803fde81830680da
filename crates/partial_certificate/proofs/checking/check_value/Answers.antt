use Rattle.std.proofs.Common.{◌≡◌, ◌∙◌, Ok, Some, Result, Bool, rules, sym, ap}
use Rattle.fraction.specs.declared.frac.NoFit.{NoFit}
use Rattle.verdicts.specs.Proves.{Value}
use Rattle.cert_check.specs.Parts.{form_value_answer}
use Rattle.cert_check.specs.Outcome.{judged, outcome, outcome_of, form_goal}
use Rattle.partial_certificate.specs.Outcome.{tree_trials}
use Rattle.partial_certificate.proofs.Trials.{form_value_is, value_holds}
use Rattle.partial_certificate.proofs.checking.check_value.Goals as goal

pub returns-in-Ok-Some : goal.returns-in-Ok-Some
returns-in-Ok-Some c =
    let p = c.args.problem.now in
    let cert = c.args.certificate.now in
    let best = c.args.best.now in
    let found : Ok (Some c.in-Ok-Some.goal) ≡ form_value_answer p best.point best.value = search rules in
    let tree : outcome_of c.check_tree.result ≡ outcome (tree_trials p (Some c.in-Ok-Some.goal) cert) = search rules in
    let same : form_goal p (Some best.value) ≡ Some c.in-Ok-Some.goal = ap Some (form_value_is p best.point best.value c.in-Ok-Some.goal found) in
    let after : outcome_of c.check_tree.result ≡ outcome (tree_trials p (form_goal p (Some best.value)) cert) = tree ∙ ap (λ g. outcome (tree_trials p g cert)) (sym same) in
    after ∙ sym (ap (λ (r : Result Bool NoFit). judged Value r (outcome (tree_trials p (form_goal p (Some best.value)) cert))) (value_holds p best.point best.value c.in-Ok-Some.goal found))
