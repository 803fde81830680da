-- The model is taken out of its box.
use Rattle.std.proofs.Common.{Err, subst}
use Rattle.gmpl_data.specs.declared.tables.LoadedModel.{LoadedModel}
use Rattle.gmpl_generate.specs.InputTables.{Takes, with_table}
use Rattle.gmpl_generate.proofs.input_tables.with_table.Goals as goal

pub returns-in-Err : goal.returns-in-Err
returns-in-Err c = subst (λ (m : LoadedModel). Takes (with_table m c.args.pause.now c.args.text.now) (Err c.in-Err.error)) c.into_inner.ensures c.in-Err.ensures
