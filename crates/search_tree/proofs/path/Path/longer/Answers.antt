use Rattle.search_tree.specs.Paths.{last_sides}
use Rattle.search_tree.proofs.Paths.{one_longer}
use Rattle.search_tree.proofs.path.Path.longer.Goals as goal

pub invariant_of-result : goal.invariant_of-result
invariant_of-result c = one_longer c.args.split c.args.side (last_sides c.self.inside.tree) (last_sides c.turn.new.tree) c.self.inside.splits c.push.new.self c.column-column.ensures.written c.in_ok-turn.ensures c.in_ok-push.ensures.ok c.self.invariant.0 c.self.invariant.1
