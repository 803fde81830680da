use Rattle.turn_pool.specs.Passes.{view_of}
use Rattle.search_node.specs.Sides.{sides_of}
use Rattle.shared_search.specs.Holders.{first_of}
use Rattle.shared_search.proofs.Faults.{handed_on}
use Rattle.shared_search.proofs.LeavesPut.{honest_of_task, grown_of_task}
use Rattle.shared_search.proofs.leaves.at_node.Goals as goal

pub grow-requires-clause-honest : goal.grow-requires-clause-honest
grow-requires-clause-honest c = honest_of_task (first_of (view_of c.args.pass.now)) c.args.task.now (sides_of c.args.node.splits) c.requires.task c.requires.held.way

pub returns-in_err-grown-clause-fault : goal.returns-in_err-grown-clause-fault
returns-in_err-grown-clause-fault c =
    let first = first_of (view_of c.args.pass.now) in
    handed_on c.from_residual.result first c.args.task.now c.in_err-grown.field-0.0 c.from_residual.ensures.1 c.requires.task (c.in_err-grown.ensures.fault first.split_limit c.requires.held.room)

pub settle-requires-clause-grown : goal.settle-requires-clause-grown
settle-requires-clause-grown c = grown_of_task (view_of c.args.pass.now) c.args.task.now c.args.lease (sides_of c.args.node.splits) c.in_ok-grown.grown c.requires.task c.requires.held c.in_ok-grown.ensures.grown
