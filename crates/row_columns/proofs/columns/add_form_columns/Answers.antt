use Rattle.std.proofs.Common.{◌+◌, drop}
use Rattle.row_columns.specs.Extending.{form_column, form_columns}
use Rattle.row_columns.proofs.Adding.{next_is_new, one_more}
use Rattle.row_columns.proofs.Extensions.{form_columns_left}
use Rattle.row_columns.proofs.columns.add_form_columns.Goals as goal

pub add_form_column-requires : goal.add_form_column-requires
add_form_column-requires c =
    let prefix = c.args.prefix.now in
    let forms = c.args.forms.now in
    let place = c.loop-place.place in
    next_is_new c.args.builder.now c.loop-place.builder (form_columns prefix 0 forms) (form_columns prefix place (drop place forms)) (form_columns prefix (place + 1) (drop (place + 1) forms)) (form_column prefix place)
    (form_columns_left prefix forms place c.loop-place-test.true) c.loop-place.invariant

pub loop-place-preserved : goal.loop-place-preserved
loop-place-preserved c =
    let prefix = c.args.prefix.now in
    let forms = c.args.forms.now in
    let place = c.loop-place.place in
    one_more c.args.builder.now c.loop-place.builder c.add_form_column.new.builder (form_columns prefix 0 forms) (form_columns prefix place (drop place forms)) (form_columns prefix (place + 1) (drop (place + 1) forms))
    (form_column prefix place) (form_columns_left prefix forms place c.loop-place-test.true) c.in_ok-add_form_column.ensures c.loop-place.invariant
