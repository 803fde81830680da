use Rattle.std.proofs.Common.{[], sym, subst}
use Rattle.gmpl_data.specs.declared.tables.LoadedModel.{LoadedModel}
use Rattle.gmpl_rows.specs.Premises.{AreDifferent, AreObjects}
use Rattle.gmpl_generate.specs.Problem.{all_declared}
use Rattle.gmpl_reader.proofs.Names.{names_are_heads}
use Rattle.gmpl_reader.proofs.read.with_data.Goals as goal

pub given-requires : goal.given-requires
given-requires c = subst AreDifferent (names_are_heads c.args.model.statements) (c.requires []).differ

pub returns-in-Ok-clause-objects : goal.returns-in-Ok-clause-objects
returns-in-Ok-clause-objects c = subst (λ (m : LoadedModel). AreObjects (all_declared m)) (sym c.loaded.ensures) (c.requires c.in-Ok.tables.objects)
