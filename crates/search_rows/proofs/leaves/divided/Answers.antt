use Rattle.std.proofs.Common.{◌∙◌, ap}
use Rattle.search_tree.specs.Tree.{Divided, AtLeaf}
use Rattle.search_tree.specs.declared.leaf.Leaf.TheVariants.{Todo}
use Rattle.search_rows.proofs.Standing.{split_stands}
use Rattle.search_rows.proofs.leaves.divided.Goals as goal

pub returns-in_ok-divided : goal.returns-in_ok-divided
returns-in_ok-divided c =
    let split = c.args.fractional.now.split in
    split_stands c.args.board.now c.args.lease.now _ c.args.fractional.now tt tt _ c.requires.leads c.requires.to_split c.requires.grant
    (c.in_ok-divided.ensures ∙ ap (λ t. Divided split t c.in_ok-high.high) c.in_ok-low.ensures ∙ ap (λ t. Divided split (AtLeaf (Todo tt)) t) c.in_ok-high.ensures)
