use Rattle.std.proofs.Common.{◌∙◌, List, subst}
use Rattle.rational.specs.Rational.{Rational}
use Rattle.verdicts.specs.Certificate.{Item}
use Rattle.search_tree.specs.Told.{AreRowsAtRest, AreColumnsAtRest}
use Rattle.search_tree.proofs.Combined.{told_pins, none_named}
use Rattle.search_tree.proofs.telling.shows_told.Goals as goal

pub returns : goal.returns
returns c = λ makes.
    let p = c.args.problem.now in
    let sides = c.args.path.now in
    let w = c.args.weights.now in
    let RowsAt : List Rational → Type 0 = λ x. AreRowsAtRest p x c.as_slice-2.result.now in
    let Rows : List Item → Type 0 = λ items. AreRowsAtRest p c.args.point.now items in
    let ColumnsAt : List Rational → Type 0 = λ x. AreColumnsAtRest p sides x c.as_slice-3.result.now in
    let Columns : List Item → Type 0 = λ items. AreColumnsAtRest p sides c.args.point.now items in
    told_pins p c.args.cuts.now sides c.args.point.now w c.args.column c.requires.over c.requires.column
    (subst Rows (c.as_slice-2.ensures.items ∙ c.rows.ensures.rows) (subst RowsAt c.as_slice-x.ensures (c.are_rows_at_rest.ensures c.if-not-are_rows_at_rest.false)))
    (subst Columns (c.as_slice-3.ensures.items ∙ c.columns.ensures) (subst ColumnsAt c.as_slice-x.ensures (c.are_columns_at_rest.ensures c.if-not-are_columns_at_rest.false)))
    (none_named c.as_slice.result.now w.derived c.is_empty.result (c.as_slice.ensures.items ∙ c.derived.ensures) c.is_empty.ensures c.if-not-is_empty.false)
    (c.makes_column.ensures makes)
