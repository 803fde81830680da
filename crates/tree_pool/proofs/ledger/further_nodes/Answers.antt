use Rattle.std.proofs.Common.{◌∙◌, ◌-◌, ap, arith}
use Rattle.search_tree.proofs.Laws.{nodes_count}
use Rattle.tree_pool.proofs.ledger.further_nodes.Goals as goal

pub returns : goal.returns
returns c = let many = nodes_count c.args.tree.now in let less = c.saturating_sub.ensures ∙ ap (λ n. n - 1) c.count.ensures in omega (arith, many, less)
