-- One more column.
use Rattle.std.proofs.Common.{rules}
use Rattle.gmpl_table_data.proofs.Places.{next_column}
use Rattle.gmpl_table_data.proofs.columns.row_given.Goals as goal

pub returns-in_err-objects : goal.returns-in_err-objects
returns-in_err-objects c =
    let next = next_column c.loop-place.place c.args.columns.now c.loop-place.place c.args.row.now c.loop-place.objects in
    search rules

pub loop-place-preserved : goal.loop-place-preserved
loop-place-preserved c =
    let next = next_column c.loop-place.place c.args.columns.now c.loop-place.place c.args.row.now c.loop-place.objects in
    search rules
