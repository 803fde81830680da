use Rattle.std.proofs.Common.{◌∙◌, ◌∷◌, ◌++◌, [], ap}
use Rattle.search_node.specs.declared.node.Node.{Node}
use Rattle.search_node.specs.declared.node.SplitTaken.{SplitTaken}
use Rattle.branch_search.proofs.Growth.{sides_below}
use Rattle.branch_search.proofs.growing.node_below.Goals as goal

pub returns : goal.returns
returns c =
    let taken : SplitTaken = record { split = c.args.split; side = c.args.side } in
    sides_below c.args.node.now.splits c.push.new.self taken (c.in_ok-push.ensures.ok ∙ ap (λ (n : Node). n.splits ++ taken ∷ []) c.in_ok-below.ensures)
