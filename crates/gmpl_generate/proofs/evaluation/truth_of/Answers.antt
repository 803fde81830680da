use Rattle.std.proofs.Common.{subst}
use Rattle.gmpl_value.specs.Outcome.{Gives}
use Rattle.gmpl_data.specs.declared.tables.LoadedModel.{LoadedModel}
use Rattle.gmpl_generate.specs.Checks.{truth_of}
use Rattle.gmpl_generate.proofs.evaluation.truth_of.Goals as goal

pub returns-clause-value : goal.returns-clause-value
returns-clause-value c = subst (λ (m : LoadedModel). Gives c.eval_bool.result (truth_of m c.args.bindings.now c.args.whole.now)) c.requires.of c.eval_bool.ensures.value
