use Rattle.search_node.specs.Sides.{sides_of}
use Rattle.search_rows.proofs.Standing.{over_columns}
use Rattle.search_rows.proofs.leaves.treatment_of.Goals as goal

pub treat-treatment-requires : goal.treat-treatment-requires
treat-treatment-requires c =
    let b = c.args.board.now in
    record { columns = over_columns b.problem b.cuts b.split_limit (sides_of c.args.node.now.splits) c.problem-problem.result.now c.cuts-cuts.result.now c.problem-problem.ensures (c.are_none.ensures c.if-are_none.true) c.root_is_over_columns.ensures c.requires }
