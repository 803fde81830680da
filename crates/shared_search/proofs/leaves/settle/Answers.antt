use Rattle.turn_pool.specs.Passes.{view_of}
use Rattle.shared_search.proofs.LeavesPut.{fragment_for, ungranted_leaf}
use Rattle.shared_search.proofs.leaves.settle.Goals as goal

pub put_fragment-requires-clause-fragment : goal.put_fragment-requires-clause-fragment
put_fragment-requires-clause-fragment c = fragment_for (view_of c.args.pass.now) c.args.lease c.args.grown c.in-Ready.fragment c.requires.grown c.in-Ready.is

pub put_leaf-requires-clause-leaf : goal.put_leaf-requires-clause-leaf
put_leaf-requires-clause-leaf c = ungranted_leaf c.treated_nodes.ensures.leaf (view_of c.args.pass.now) c.args.lease c.args.grown c.in-Ungranted.hint c.requires.grown c.in-Ungranted.is
