-- The model is lent out of its box.
use Rattle.std.proofs.Common.{sym, subst}
use Rattle.gmpl_data.specs.declared.tables.LoadedModel.{LoadedModel}
use Rattle.gmpl_rows.specs.Premises.{AreObjects}
use Rattle.gmpl_generate.specs.Problem.{all_declared}
use Rattle.gmpl_generate.specs.Running.{made_of}
use Rattle.gmpl_generate.proofs.Executions.{is_executed}
use Rattle.gmpl_generate.proofs.problem.generate.Goals as goal

pub all_executed-stopped-requires : goal.all_executed-stopped-requires
all_executed-stopped-requires c = subst (λ (m : LoadedModel). AreObjects (all_declared m)) (sym c.get.ensures) c.requires

pub returns : goal.returns
returns c =
    is_executed c.args.model c.get.result.now _ (made_of c.all_executed-stopped.new.so_far) c.all_executed-stopped.result c.outcome_of.result c.get.ensures c.new-so_far.ensures c.all_executed-stopped.ensures c.outcome_of.ensures
