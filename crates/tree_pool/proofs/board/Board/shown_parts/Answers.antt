use Rattle.std.proofs.Common.{◌∙◌, ap}
use Rattle.partial_certificate.specs.Written.{is_whole}
use Rattle.tree_pool.proofs.ShownTrees.{shown_whole}
use Rattle.tree_pool.proofs.board.Board.shown_parts.Goals as goal

pub new-requires-clause-tree : goal.new-requires-clause-tree
new-requires-clause-tree c = ap is_whole c.in_ok-tree.ensures ∙ shown_whole c.args.self.now.tree
