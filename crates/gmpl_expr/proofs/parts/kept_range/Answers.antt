-- What is found is the range, and what is kept is right.
use Rattle.std.proofs.Common.{subst, sym}
use Rattle.gmpl_value.specs.Outcome.{GivesAs, then_do}
use Rattle.gmpl_operations.specs.Values.{set_in}
use Rattle.gmpl_expr.proofs.parts.kept_range.Goals as goal

pub returns-in_err-remember-in-None-clause-right : goal.returns-in_err-remember-in-None-clause-right
returns-in_err-remember-in-None-clause-right c = c.remember.ensures.right c.args.model.now c.requires.right c.in_ok-set-in-None.ensures

pub returns-in_ok-remember-in-None-clause-right : goal.returns-in_ok-remember-in-None-clause-right
returns-in_ok-remember-in-None-clause-right c = c.remember.ensures.right c.args.model.now c.requires.right c.in_ok-set-in-None.ensures

pub returns-in-Some-clause-value : goal.returns-in-Some-clause-value
returns-in-Some-clause-value c =
    subst (λ o. GivesAs (λ set. set.value) c.into_set.result (then_do set_in o)) (sym (c.in-Some.ensures c.args.model.now c.requires.right)) c.into_set.ensures
