use Rattle.turn_pool.specs.Passes.{view_of}
use Rattle.shared_search.proofs.LeavesPut.{put_then}
use Rattle.shared_search.proofs.leaves.put_with.Goals as goal

pub offer-requires-clause-feasible : goal.offer-requires-clause-feasible
offer-requires-clause-feasible c = c.requires.fragment.fragment.found.feasible

pub offer-requires-clause-sums : goal.offer-requires-clause-sums
offer-requires-clause-sums c = c.requires.fragment.fragment.found.sums

pub put-requires-clause-may : goal.put-requires-clause-may
put-requires-clause-may c =
    put_then c.bounded_leaves.ensures c.trees_of_leases.ensures.tree (view_of c.args.pass.now) (view_of c.offer.new.pass) c.args.lease c.args.point c.args.tree c.in_ok-_best._best c.requires.fragment c.in_ok-_best.ensures.offered c.offer.ensures.same
