use Rattle.std.proofs.Common.{◌∙◌, sym, subst}
use Rattle.std.specs.Prelude.{IfNone}
use Rattle.row_columns.specs.Scaling.{IsUnfitForm}
use Rattle.row_columns.proofs.ScalingLemmas.{no_integers, no_fit}
use Rattle.row_columns.proofs.scaling.whole_form.Goals as goal

pub returns-then-not-are_on_integers-clause-form : goal.returns-then-not-are_on_integers-clause-form
returns-then-not-are_on_integers-clause-form c = no_integers c.args.problem.now c.args.form.now (sym c.are_on_integers.ensures ∙ c.if-not-are_on_integers.true)

pub returns-in-None-clause-form : goal.returns-in-None-clause-form
returns-in-None-clause-form c = no_fit c.args.problem.now c.args.form.now (subst (λ o. IfNone o (IsUnfitForm c.args.form.now)) c.in-None.is c.in_ok-made.ensures.unfit)
