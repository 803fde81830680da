use Rattle.instance.proofs.ByColumn.{next_in_range, one_more}
use Rattle.instance.proofs.by_column.EntriesByColumn.add_row.Goals as goal

pub push-requires : goal.push-requires
push-requires c = next_in_range c.args.row c.loop-entry.entry-index c.args.entries.now c.entry-item.result c.args.self.now c.loop-entry.self c.requires c.loop-entry-test.true c.entry-item.is c.loop-entry.invariant

pub loop-entry-preserved : goal.loop-entry-preserved
loop-entry-preserved c = one_more c.args.row c.loop-entry.entry-index c.args.entries.now c.entry-item.result c.args.self.now c.loop-entry.self c.push.new.self c.loop-entry-test.true c.entry-item.is c.loop-entry.invariant c.in_ok-push.ensures
