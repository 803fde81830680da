use Rattle.std.proofs.Common.{arith}
use Rattle.search_tree.proofs.Slots.{nodes_count}
use Rattle.search_tree.proofs.subtree.Subtree.splits.Goals as goal

pub returns : goal.returns
returns c = let many = nodes_count c.args.self.now in omega (arith, many, c.count.ensures)
