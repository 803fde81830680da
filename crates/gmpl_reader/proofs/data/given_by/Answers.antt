use Rattle.std.proofs.Common.{◌∙◌, List, ap, sym, subst, Ok, Err}
use Rattle.gmpl_resolved.specs.declared.statement.Numbered.{Numbered}
use Rattle.gmpl_rows.specs.Premises.{AreDifferent}
use Rattle.gmpl_reader.specs.Names.{names_of}
use Rattle.gmpl_load.specs.Texts.{all_tables, IsFault}
use Rattle.gmpl_reader.proofs.Given.{is_given, same_objects}
use Rattle.gmpl_reader.proofs.data.given_by.Goals as goal

pub names_of-requires : goal.names_of-requires
names_of-requires c = subst (λ (xs : List Numbered). AreDifferent (names_of xs)) (sym c.as_slice-statements.ensures) c.requires

pub returns-in-Ok-clause-tables : goal.returns-in-Ok-clause-tables
returns-in-Ok-clause-tables c =
    is_given c.args.model.now c.in_ok-names.names c.deref.result.now c.args.source c.args.texts.now (Ok c.in-Ok.given.objects)
    (c.in_ok-names.ensures ∙ ap names_of c.as_slice-statements.ensures)
    (c.deref.ensures.value ∙ (c.in_ok-objects.ensures ∙ same_objects _ _ _ _ c.as_slice-statements.ensures c.as_slice.ensures))
    c.in-Ok.ensures.tables

pub returns-in-Err-Fault-clause-fault : goal.returns-in-Err-Fault-clause-fault
returns-in-Err-Fault-clause-fault c =
    is_given c.args.model.now c.in_ok-names.names c.deref.result.now c.args.source c.args.texts.now (Err c.in-Err-Fault.fault)
    (c.in_ok-names.ensures ∙ ap names_of c.as_slice-statements.ensures)
    (c.deref.ensures.value ∙ (c.in_ok-objects.ensures ∙ same_objects _ _ _ _ c.as_slice-statements.ensures c.as_slice.ensures))
    (subst (λ e. IsFault (all_tables c.in_ok-names.names c.deref.result.now c.args.source c.args.texts.now) e) c.in-Err-Fault.field-0-is c.in-Err-Fault.ensures.fault)
