use Rattle.std.proofs.Common.{◌∙◌, sym, ap, option_map}
use Rattle.certificate.specs.Values.{node_of}
use Rattle.tree_pool.proofs.ClosedNodes.{none_added}
use Rattle.tree_pool.proofs.closed.add_closed.Goals as goal

pub returns-in-None : goal.returns-in-None
returns-in-None c = none_added c.args.tree.now _ (sym c.in_ok-closed_at.ensures ∙ ap (option_map node_of) c.in-None.is)
