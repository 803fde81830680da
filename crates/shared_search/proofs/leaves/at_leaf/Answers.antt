use Rattle.turn_pool.specs.Passes.{view_of}
use Rattle.shared_search.proofs.LeavesPut.{given_held}
use Rattle.shared_search.proofs.leaves.at_leaf.Goals as goal

pub at_node-requires-clause-held : goal.at_node-requires-clause-held
at_node-requires-clause-held c = given_held (view_of c.args.pass.now) c.args.leaf c.in-Some.node c.requires.given c.in-Some.is
