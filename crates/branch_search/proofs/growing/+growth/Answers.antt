use Rattle.std.proofs.Common.{◌-◌, refl, arith}
use Rattle.certificate.specs.Ways.{side_of}
use Rattle.search_node.specs.Sides.{sides_of}
use Rattle.branch_search.specs.Faults.{IsLeafFault}
use Rattle.branch_search.proofs.Growth.{closed_of, to_split_of, side_closed, split_grown, handed_on, short_below, room_below}
use Rattle.branch_search.proofs.growing.+growth.Goals as goal

-- ---- a side

pub grow_side-returns-in_err-leaf-2-clause-fault : goal.grow_side-returns-in_err-leaf-2-clause-fault
grow_side-returns-in_err-leaf-2-clause-fault t c = λ splits room.
    let short = short_below (sides_of c.args.node.now.splits) (sides_of c.in_ok-below.below.splits) (side_of c.args.fractional.now.split c.args.side) c.args.progress.now.left splits c.in_ok-below.ensures room in
    handed_on c.from_residual-in_err-leaf-2.result c.in_err-leaf-2.field-0.0 (IsLeafFault c.args.problem.now c.args.cuts.now splits c.args.pivot_limit) c.from_residual-in_err-leaf-2.ensures.1 (c.in_err-leaf-2.ensures.fault splits short)

pub grow_side-returns-in-Closed-clause-grown : goal.grow_side-returns-in-Closed-clause-grown
grow_side-returns-in-Closed-clause-grown t c =
    let p = c.args.problem.now in
    let ds = c.args.cuts.now in
    let below = c.in_ok-below.below in
    let closed = closed_of p ds c.args.pivot_limit below c.args.progress.now c.decide.new.progress c.in_ok-leaf-2.field-0 c.in-Closed.leaf c.in-Closed.is c.in_ok-leaf-2.ensures.decided in
    side_closed p ds c.args.pivot_limit _ below c.args.progress.now c.decide.new.progress c.in-Closed.leaf c.in_ok-leaf-in-Closed.field-0 c.in_ok-below.ensures closed c.in_ok-leaf-in-Closed.ensures

pub grow_side-returns-clause-fault : goal.grow_side-returns-clause-fault
grow_side-returns-clause-fault t c = λ splits room.
    let below = c.in_ok-below.below in
    let to_split = to_split_of c.args.problem.now c.args.cuts.now c.args.pivot_limit below c.args.progress.now c.decide.new.progress c.in_ok-leaf-2.field-0 c.in-ToSplit.below c.in-ToSplit.fractional c.in-ToSplit.is c.in_ok-leaf-2.ensures.decided in
    c.grow_split.ensures.fault splits
    (room_below below c.in-ToSplit.below (sides_of c.args.node.now.splits) (side_of c.args.fractional.now.split c.args.side) c.args.progress.now c.decide.new.progress splits c.in_ok-below.ensures to_split.0 to_split.1 room)

-- ---- a split

pub grow_split-returns-in_err-high-clause-fault : goal.grow_split-returns-in_err-high-clause-fault
grow_split-returns-in_err-high-clause-fault t c = λ splits room.
    let one = c.requires.left in
    handed_on c.from_residual.result c.in_err-high.field-0.0 (IsLeafFault c.args.problem.now c.args.cuts.now splits c.args.pivot_limit) c.from_residual.ensures.1 (c.in_err-high.ensures.fault splits (omega (arith, room, one)))

pub grow_split-returns-in_err-low-clause-fault : goal.grow_split-returns-in_err-low-clause-fault
grow_split-returns-in_err-low-clause-fault t c = λ splits room.
    let one = c.requires.left in
    let count = c.in_ok-high.ensures.grown.count in
    handed_on c.from_residual-in_err-low.result c.in_err-low.field-0.0 (IsLeafFault c.args.problem.now c.args.cuts.now splits c.args.pivot_limit) c.from_residual-in_err-low.ensures.1 (c.in_err-low.ensures.fault splits (omega (arith, room, one, count)))

pub grow_split-returns-clause-grown : goal.grow_split-returns-clause-grown
grow_split-returns-clause-grown t c =
    let old = c.args.progress.now in
    split_grown c.bounded_leaves.ensures c.treated_nodes.ensures.worthwhile c.args.problem.now c.args.cuts.now c.args.pivot_limit (sides_of c.args.node.now.splits) c.args.fractional.now old (record old { left = old.left - 1 })
    c.grow_side.new.progress c.grow_side-2.new.progress c.in_ok-low.low c.in_ok-high.high c.in_ok-divided.field-0 c.requires.left refl refl refl c.requires.to_split c.in_ok-high.ensures.grown c.in_ok-low.ensures.grown c.in_ok-divided.ensures
