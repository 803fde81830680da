use Rattle.turn_pool.specs.Passes.{view_of}
use Rattle.shared_search.proofs.LeavesPut.{put_at_once, with_point}
use Rattle.shared_search.proofs.leaves.put_fragment.Goals as goal

pub put-requires-clause-may : goal.put-requires-clause-may
put-requires-clause-may c = put_at_once c.trees_of_leases.ensures.tree (view_of c.args.pass.now) c.args.lease c.args.fragment c.requires.fragment c.in-None.is

pub put_with-requires-clause-fragment : goal.put_with-requires-clause-fragment
put_with-requires-clause-fragment c = with_point (view_of c.args.pass.now) c.args.lease c.args.fragment c.in-Some.point c.requires.fragment c.in-Some.is
