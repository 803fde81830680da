use Rattle.dictionary.proofs.StartTable.{counted_twice}
use Rattle.dictionary.proofs.start.positions_of.Goals as goal

pub returns : goal.returns
returns c = counted_twice c.args.columns c.args.forms c.new-positions.result.items c.count_on.new.positions.items c.count_on-2.new.positions.items c.new-positions.ensures.items c.in_ok-count_on.ensures c.in_ok-count_on-2.ensures
