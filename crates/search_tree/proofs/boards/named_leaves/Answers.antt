use Rattle.search_tree.proofs.NamedLeaves.{empty_named, bound_named, named_at_root}
use Rattle.search_tree.proofs.boards.named_leaves.Goals as goal

pub returns : goal.returns
returns c = record { empty = empty_named c.splits_are_named.ensures.sums; bound = bound_named c.splits_are_named.ensures.sums; root = named_at_root }
