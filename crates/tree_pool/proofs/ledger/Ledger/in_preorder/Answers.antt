use Rattle.std.proofs.Common.{◌≡◌, ◌∙◌, ◌∷◌, [], length, map, sym, ap, append-nil, arith}
use Rattle.search_tree.specs.Slots.{slots_of}
use Rattle.search_tree.proofs.Laws.{nodes_count}
use Rattle.tree_pool.specs.LogNodes.{node_at, nodes_in}
use Rattle.tree_pool.specs.Standing.{in_preorder}
use Rattle.tree_pool.specs.Grown.{tree_after}
use Rattle.tree_pool.proofs.Results.{if_ok}
use Rattle.tree_pool.proofs.Preorders.{root_at, walked}
use Rattle.tree_pool.proofs.ledger.Ledger.in_preorder.Goals as goal

pub returns : goal.returns
returns c =
    let log = c.self.inside.log.items in
    let refs = c.self.inside.nodes.items in
    let t = tree_after log in
    let are = c.self.invariant.0 in
    let node = node_at log in
    let whole : map node (in_preorder node refs (length refs) (0 ∷ [])) ≡ slots_of t = walked node t c.self.inside.paths.all refs are t 0 0 (length refs) [] (root_at node t c.self.inside.paths.all refs are) (let n = nodes_count t in let m = are.count in omega (arith, n, m)) ∙ append-nil (slots_of t) in
    let lent : in_preorder (node_at c.deref.result.now) c.deref-2.result.now (length c.deref-2.result.now) (0 ∷ []) ≡ in_preorder node refs (length refs) (0 ∷ []) =
    ap (λ l. in_preorder (node_at l) c.deref-2.result.now (length c.deref-2.result.now) (0 ∷ [])) c.deref.ensures.value ∙ ap (λ rs. in_preorder node rs (length rs) (0 ∷ [])) c.deref-2.ensures.value in
    if_ok c.in_preorder.result _ _ (λ all h. ap (λ l. nodes_in l.log all.items) (sym c.self.view_is) ∙ ap (map node) (h ∙ lent) ∙ whole ∙ ap (λ l. slots_of l.tree) c.self.view_is) c.in_preorder.ensures
