use Rattle.search_node.specs.Sides.{sides_of}
use Rattle.search_rows.proofs.Standing.{grown_stands, none_there}
use Rattle.search_rows.proofs.leaves.grown_tree.Goals as goal

pub returns-in-Some : goal.returns-in-Some
returns-in-Some c =
    let none = none_there c.args.lease.now.best c.is_some.result c.is_some.ensures c.if-is_some.false in
    grown_stands c.args.board.now c.args.lease.now (sides_of c.args.node.now.splits) c.in_ok-fragment.field-0 c.in-Some.fragment c.tree_alone.result c.requires.leads c.in-Some.is c.in_ok-fragment.ensures none c.tree_alone.ensures
