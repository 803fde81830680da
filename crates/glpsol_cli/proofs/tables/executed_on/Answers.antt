use Rattle.std.proofs.Common.{[], ◌∷◌, ◌++◌, subst}
use Rattle.glpsol_cli.specs.Meaning.{file_pieces}
use Rattle.glpsol_cli.specs.Stages.{IsExecutionOf}
use Rattle.glpsol_cli.proofs.tables.executed_on.Goals as goal

pub returns : goal.returns
returns c = record {
  settings = c.in_ok-inputs.ensures.settings;
  texts = c.in_ok-inputs.ensures.texts;
  execution = λ text data_texts tables files language making pending.
      subst (λ t. IsExecutionOf (file_pieces files) c.args.inputs.settings text data_texts (tables ++ t ∷ []) c.in_ok-executed.executed) c.deref.ensures.value ((rw c.get.ensures at c.in_ok-executed.ensures) text data_texts tables files language making pending);
}
