use Rattle.std.proofs.Common.{◌∙◌, length, sym, subst}
use Rattle.ranging.specs.PlaceNames.{named_rows}
use Rattle.exact_ranges.specs.Parts.{AreForms}
use Rattle.exact_ranges.proofs.Naming.{columns_count, row_columns_count, built_is, unit_is_form, within_limits}
use Rattle.exact_ranges.proofs.parts.built.Goals as goal

pub add_columns-requires-clause-few : goal.add_columns-requires-clause-few
add_columns-requires-clause-few c = (within_limits c.args.columns.now c.args.rows.now c.requires.small).0

pub add_rows-requires-clause-few : goal.add_rows-requires-clause-few
add_rows-requires-clause-few c = (within_limits c.args.columns.now c.args.rows.now c.requires.small).1

pub add_rows-requires-clause-forms : goal.add_rows-requires-clause-forms
add_rows-requires-clause-forms c = subst (λ n. AreForms n c.args.rows.now) (sym (columns_count c.add_columns.new.builder c.in_ok-builder.builder c.args.columns.now c.in_ok-add_columns.ensures)) c.requires.forms

pub objective-requires : goal.objective-requires
objective-requires c =
    let size = row_columns_count c.add_columns.new.builder c.add_rows.new.builder c.in_ok-builder.builder c.args.columns.now (named_rows 0 c.args.rows.now) c.in_ok-add_rows.ensures c.in_ok-add_columns.ensures in
    unit_is_form c.args.column (length c.args.columns.now) (length c.add_rows.new.builder.columns) c.from_vec-form.result (c.from_vec-form.ensures ∙ c.in_ok-entries.ensures) size c.requires.column

pub returns : goal.returns
returns c =
    built_is c.in_ok-builder.builder c.add_columns.new.builder c.add_rows.new.builder c.objective.new.self c.done.result c.args.columns.now c.args.rows.now c.args.wanted c.args.column c.in_ok-name.name c.from_vec-form.result c.zero.result
    c.in_ok-add_columns.ensures c.in_ok-add_rows.ensures c.in_ok-name.ensures (c.from_vec-form.ensures ∙ c.in_ok-entries.ensures) c.zero.ensures c.objective.ensures c.done.ensures
