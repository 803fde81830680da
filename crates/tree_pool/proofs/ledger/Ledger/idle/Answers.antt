use Rattle.std.proofs.Common.{◌≡◌, ◌∙◌, ◌++◌, ◌∷◌, [], refl, ap}
use Rattle.search_tree.specs.declared.event.Entry.{Entry}
use Rattle.search_tree.specs.declared.event.Event.TheVariants.{Idling}
use Rattle.search_tree.specs.declared.event.Reply.TheVariants.{StillLeased}
use Rattle.tree_pool.specs.Grown.{tree_after}
use Rattle.tree_pool.proofs.Ledgers.{same_ledger, same_best, tree_more, all_later, best_in_log, unchanged, nodes_after}
use Rattle.tree_pool.proofs.ledger.Ledger.idle.Goals as goal

pub invariant_of-self : goal.invariant_of-self
invariant_of-self c = unchanged c.self.inside.log.items c.reserve.new.self.items c.self.inside.paths.all c.self.inside.nodes.items c.self.inside.best c.reserve.ensures.items c.self.invariant

pub invariant_of-self-2 : goal.invariant_of-self-2
invariant_of-self-2 c =
    let log = c.self.inside.log.items in
    let refs = c.self.inside.nodes.items in
    let e : Entry = record { event = Idling c.args.seat; reply = StillLeased c.args.count } in
    let more : c.push_reserved.new.self.items ≡ log ++ e ∷ [] = c.push_reserved.ensures.items ∙ ap (λ entries. entries ++ e ∷ []) c.reserve.ensures.items in (
      nodes_after log c.push_reserved.new.self.items e (tree_after log) c.self.inside.paths.all refs more refl c.self.invariant.1 c.self.invariant.0,
      all_later log c.push_reserved.new.self.items e refs more c.self.invariant.1,
      best_in_log log c.push_reserved.new.self.items e c.self.inside.best more c.self.invariant.2,
    )

pub returns-clause-ok : goal.returns-clause-ok
returns-clause-ok c =
    let log = c.self.inside.log.items in
    let e : Entry = record { event = Idling c.args.seat; reply = StillLeased c.args.count } in
    let more : c.push_reserved.new.self.items ≡ log ++ e ∷ [] = c.push_reserved.ensures.items ∙ ap (λ entries. entries ++ e ∷ []) c.reserve.ensures.items in
    same_ledger _ _ _ _ _ _ (more ∙ ap (λ l. l.log ++ e ∷ []) c.self.view_is) (tree_more log c.push_reserved.new.self.items e more ∙ ap (λ l. l.tree) c.self.view_is)
    (same_best log c.push_reserved.new.self.items e c.self.inside.best more c.self.invariant.2 ∙ ap (λ l. l.best) c.self.view_is)
