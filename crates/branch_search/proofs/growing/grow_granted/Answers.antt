use Rattle.branch_search.specs.Faults.{IsLeafFault}
use Rattle.branch_search.proofs.Growth.{handed_on}
use Rattle.branch_search.proofs.growing.grow_granted.Goals as goal

pub returns-in_err-tree-clause-fault : goal.returns-in_err-tree-clause-fault
returns-in_err-tree-clause-fault c = λ splits room.
    handed_on c.from_residual-in_err-tree.result c.in_err-tree.field-0.0 (IsLeafFault c.args.problem.now c.args.cuts.now splits c.args.pivot_limit) c.from_residual-in_err-tree.ensures.1 (c.in_err-tree.ensures.fault splits room)
