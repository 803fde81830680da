use Rattle.std.proofs.Common.{arith}
use Rattle.branch_search.specs.Faults.{IsLeafFault}
use Rattle.branch_search.proofs.Growth.{to_split_of, handed_on, room_at}
use Rattle.branch_search.proofs.growing.grow_with.Goals as goal

pub returns-in_err-leaf-clause-fault : goal.returns-in_err-leaf-clause-fault
returns-in_err-leaf-clause-fault c = λ splits room.
    handed_on c.from_residual.result c.in_err-leaf.field-0.0 (IsLeafFault c.args.problem.now c.args.cuts.now splits c.args.pivot_limit) c.from_residual.ensures.1 (c.in_err-leaf.ensures.fault splits (omega (arith, room)))

pub returns-in-ToSplit-clause-fault : goal.returns-in-ToSplit-clause-fault
returns-in-ToSplit-clause-fault c = λ splits room.
    let t = to_split_of c.args.problem.now c.args.cuts.now c.args.pivot_limit c.args.node c.args.progress.now c.decide.new.progress c.in_ok-leaf.field-0 c.in-ToSplit.node c.in-ToSplit.fractional c.in-ToSplit.is c.in_ok-leaf.ensures.decided in
    c.grow_granted.ensures.fault splits (room_at c.args.node c.in-ToSplit.node c.args.progress.now c.decide.new.progress splits t.0 t.1 room)
