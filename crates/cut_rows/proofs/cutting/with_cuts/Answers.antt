use Rattle.std.proofs.Common.{◌∙◌, length, sym, subst}
use Rattle.row_columns.specs.Extending.{row_names, AreWithin}
use Rattle.cut_rows.proofs.CutRows.{cut_rows_apart, cut_rows_within, cut_problem, too_large}
use Rattle.cut_rows.proofs.cutting.with_cuts.Goals as goal

pub add_all_rows-requires-clause-names : goal.add_all_rows-requires-clause-names
add_all_rows-requires-clause-names c =
    let p = c.args.problem.now in
    cut_rows_apart c.as_str.result.now c.as_slice.result.now c.args.cuts.now p.rows c.deref.result.now (c.deref.ensures.value ∙ c.in_ok-rows.ensures) c.as_slice.ensures.rows c.as_slice.ensures.count
    (subst (λ text. AreWithin (length text) (row_names p.rows)) (sym c.as_str.ensures.value) c.in_ok-text.ensures.rows)

pub add_all_rows-requires-clause-entries : goal.add_all_rows-requires-clause-entries
add_all_rows-requires-clause-entries c =
    cut_rows_within c.as_str.result.now (length c.args.problem.now.columns) c.as_slice.result.now c.args.cuts.now c.deref.result.now (c.deref.ensures.value ∙ c.in_ok-rows.ensures) c.as_slice.ensures.rows c.requires c.as_slice.ensures.written

pub returns-in-Ok-clause-cut : goal.returns-in-Ok-clause-cut
returns-in-Ok-clause-cut c =
    cut_problem c.args.problem.now c.as_str.result.now c.as_slice.result.now c.args.cuts.now c.deref.result.now c.add_all_rows.new.builder c.done.result (c.deref.ensures.value ∙ c.in_ok-rows.ensures) c.as_slice.ensures.rows c.in-Ok.ensures.ok c.done.ensures

pub returns-in-Err-TooMany-clause-too_large : goal.returns-in-Err-TooMany-clause-too_large
returns-in-Err-TooMany-clause-too_large c = λ none.
    too_large c.args.problem.now c.as_str.result.now c.as_slice.result.now c.args.cuts.now c.deref.result.now (c.deref.ensures.value ∙ c.in_ok-rows.ensures) c.as_slice.ensures.rows (c.in-Err-TooMany.ensures.too_many c.in-Err-TooMany.field-0-is)
