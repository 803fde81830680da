use Rattle.std.proofs.Common.{◌≡◌, ◌∙◌, map, ap}
use Rattle.search_tree.specs.Slots.{slots_of}
use Rattle.tree_pool.specs.LogNodes.{nodes_in}
use Rattle.tree_pool.specs.Kinds.{kind_of}
use Rattle.tree_pool.specs.Ledger.{kinds_in}
use Rattle.tree_pool.proofs.KindLemmas.{kinds_are, leased_is}
use Rattle.tree_pool.proofs.ledger.Ledger.leased.Goals as goal

pub returns : goal.returns
returns c =
    let t = c.args.self.now.tree in
    let kinds = kinds_in c.deref.result.now c.deref-2.result.now in
    let nodes : nodes_in c.deref.result.now c.deref-2.result.now ≡ slots_of t =
    ap (λ log. nodes_in log c.deref-2.result.now) (c.deref.ensures.value ∙ ap (λ l. l.log) c.self.view_is) ∙ ap (nodes_in c.args.self.now.log) c.deref-2.ensures.value ∙ c.in_ok-nodes.ensures in
    let are : kinds ≡ map kind_of (slots_of t) = kinds_are c.deref.result.now c.deref-2.result.now t nodes in
    c.leased_count.ensures ∙ leased_is kinds t are
