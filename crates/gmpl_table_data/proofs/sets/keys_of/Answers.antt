-- One more key.
use Rattle.std.proofs.Common.{rules}
use Rattle.gmpl_table_data.proofs.Places.{next_key}
use Rattle.gmpl_table_data.proofs.sets.keys_of.Goals as goal

pub loop-place-preserved : goal.loop-place-preserved
loop-place-preserved c =
    let next = next_key c.args.table.now c.loop-place.place c.loop-place.joined in
    search rules
