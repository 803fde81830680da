use Rattle.std.proofs.Common.{◌≡◌, ◌∙◌, ap}
use Rattle.search_tree.specs.Slots.{slots_of}
use Rattle.tree_pool.specs.LogNodes.{nodes_in}
use Rattle.tree_pool.specs.Shown.{shown_nodes, shown_slots}
use Rattle.tree_pool.proofs.Results.{if_ok}
use Rattle.tree_pool.proofs.ShownTrees.{shown_in}
use Rattle.tree_pool.proofs.ledger.Ledger.shown_tree.Goals as goal

pub returns : goal.returns
returns c =
    let t = c.args.self.now.tree in
    let nodes : nodes_in c.deref.result.now c.deref-2.result.now ≡ slots_of t =
    ap (λ log. nodes_in log c.deref-2.result.now) (c.deref.ensures.value ∙ ap (λ l. l.log) c.self.view_is) ∙ ap (nodes_in c.args.self.now.log) c.deref-2.ensures.value ∙ c.in_ok-nodes.ensures in
    if_ok c.shown_tree.result (λ u. u ≡ shown_slots (nodes_in c.deref.result.now c.deref-2.result.now)) (λ u. u ≡ shown_nodes t) (λ u h. h ∙ shown_in (nodes_in c.deref.result.now c.deref-2.result.now) t nodes) c.shown_tree.ensures
