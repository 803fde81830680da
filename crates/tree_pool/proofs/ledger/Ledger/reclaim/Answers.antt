use Rattle.std.proofs.Common.{◌≡◌, ◌∙◌, ◌++◌, ◌∷◌, [], List, length, map, refl, sym, ap, subst}
use Rattle.search_tree.specs.declared.event.Entry.{Entry}
use Rattle.search_tree.specs.declared.event.Event.TheVariants.{Reclaiming}
use Rattle.search_tree.specs.declared.event.Reply.TheVariants.{Done}
use Rattle.search_tree.specs.Tree.{reclaimed}
use Rattle.tree_pool.specs.declared.refs.NodeRef.{NodeRef}
use Rattle.tree_pool.specs.LogNodes.{AllInLog}
use Rattle.tree_pool.specs.Grown.{tree_after}
use Rattle.tree_pool.specs.Ledger.{given_back}
use Rattle.tree_pool.proofs.Ledgers.{all_later, best_in_log, nodes_after, same_best, tree_more, unchanged}
use Rattle.tree_pool.proofs.Reclaims.{back_in_log, reclaimed_nodes}
use Rattle.tree_pool.proofs.ledger.Ledger.reclaim.Goals as goal

pub invariant_of-self : goal.invariant_of-self
invariant_of-self c = unchanged c.self.inside.log.items c.reserve.new.self.items c.self.inside.paths.all c.self.inside.nodes.items c.self.inside.best c.reserve.ensures.items c.self.invariant

pub invariant_of-self-2 : goal.invariant_of-self-2
invariant_of-self-2 c =
    let log = c.self.inside.log.items in
    let refs = c.self.inside.nodes.items in
    let backs = c.in_ok-nodes.nodes.items in
    let e : Entry = record { event = Reclaiming; reply = Done } in
    let more : c.push_reserved.new.self.items ≡ log ++ e ∷ [] = c.push_reserved.ensures.items ∙ ap (λ entries. entries ++ e ∷ []) c.reserve.ensures.items in
    let news : backs ≡ map (given_back log) refs = c.in_ok-nodes.ensures ∙ ap (λ entries. map (given_back entries) c.deref-2.result.now) c.deref.ensures.value ∙ ap (map (given_back log)) c.deref-2.ensures.value in
    let P : List NodeRef → Type 0 = λ rs. AllInLog (length log) rs in
    let within = subst P (sym news) (back_in_log log (length log) refs c.self.invariant.1) in (
      nodes_after log c.push_reserved.new.self.items e (reclaimed (tree_after log)) c.self.inside.paths.all backs more refl within (reclaimed_nodes log (tree_after log) c.self.inside.paths.all refs backs news c.self.invariant.0),
      all_later log c.push_reserved.new.self.items e backs more within,
      best_in_log log c.push_reserved.new.self.items e c.self.inside.best more c.self.invariant.2,
    )

pub returns-clause-tree : goal.returns-clause-tree
returns-clause-tree c =
    let log = c.self.inside.log.items in
    let e : Entry = record { event = Reclaiming; reply = Done } in
    let more : c.push_reserved.new.self.items ≡ log ++ e ∷ [] = c.push_reserved.ensures.items ∙ ap (λ entries. entries ++ e ∷ []) c.reserve.ensures.items in
    tree_more log c.push_reserved.new.self.items e more ∙ ap (λ l. reclaimed l.tree) c.self.view_is

pub returns-clause-best : goal.returns-clause-best
returns-clause-best c =
    let log = c.self.inside.log.items in
    let e : Entry = record { event = Reclaiming; reply = Done } in
    let more : c.push_reserved.new.self.items ≡ log ++ e ∷ [] = c.push_reserved.ensures.items ∙ ap (λ entries. entries ++ e ∷ []) c.reserve.ensures.items in
    same_best log c.push_reserved.new.self.items e c.self.inside.best more c.self.invariant.2 ∙ ap (λ l. l.best) c.self.view_is
