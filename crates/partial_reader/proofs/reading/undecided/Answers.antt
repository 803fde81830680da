use Rattle.partial_reader.proofs.PartialTaken.{best_size, shown_whole}
use Rattle.partial_reader.proofs.reading.undecided.Goals as goal

pub new-requires-clause-size : goal.new-requires-clause-size
new-requires-clause-size c = best_size c.args.columns c.args.lines.now (c.in_ok-best.best, c.best.new.lines) c.in_ok-best.ensures

pub new-requires-clause-tree : goal.new-requires-clause-tree
new-requires-clause-tree c = shown_whole c.best.new.lines ((c.in_ok-derived.derived, c.in_ok-derived.tree), c.shown.new.lines) c.in_ok-derived.ensures
