use Rattle.std.proofs.Common.{◌≡◌, ◌∙◌, ◌++◌, ◌∷◌, [], List, length, cond, Option, Some, refl, ap}
use Rattle.rational.specs.Rational.{Rational}
use Rattle.search_tree.specs.declared.event.Entry.{Entry}
use Rattle.search_tree.specs.declared.event.Event.TheVariants.{Offering}
use Rattle.search_tree.specs.declared.event.Reply.TheVariants.{Best}
use Rattle.tree_pool.specs.Grown.{tree_after}
use Rattle.tree_pool.proofs.Ledgers.{unchanged, new_best, nodes_after, tree_more, all_later}
use Rattle.tree_pool.proofs.ledger.Ledger.offer.Goals as goal

pub invariant_of-self : goal.invariant_of-self
invariant_of-self c = unchanged c.self.inside.log.items c.reserve.new.self.items c.self.inside.paths.all c.self.inside.nodes.items c.self.inside.best c.reserve.ensures.items c.self.invariant

pub invariant_of-self-2 : goal.invariant_of-self-2
invariant_of-self-2 c =
    let log = c.self.inside.log.items in
    let refs = c.self.inside.nodes.items in
    let e : Entry = record { event = Offering c.args.seat c.args.point; reply = Best c.args.told } in
    let more : c.push_reserved.new.self.items ≡ log ++ e ∷ [] = c.push_reserved.ensures.items ∙ ap (λ entries. entries ++ e ∷ []) c.reserve.ensures.items in
    let count : c.len-entry.result ≡ length log = c.len-entry.ensures ∙ c.reserve.ensures.len ∙ c.self.inside.log.ok.0 in (
      nodes_after log c.push_reserved.new.self.items e (tree_after log) c.self.inside.paths.all refs more refl c.self.invariant.1 c.self.invariant.0,
      all_later log c.push_reserved.new.self.items e refs more c.self.invariant.1,
      (new_best log c.push_reserved.new.self.items e c.self.inside.best c.newer-best.result c.args.better c.args.point c.len-entry.result more count refl c.newer-best.ensures c.self.invariant.2).1,
    )

pub returns-clause-tree : goal.returns-clause-tree
returns-clause-tree c =
    let log = c.self.inside.log.items in
    let e : Entry = record { event = Offering c.args.seat c.args.point; reply = Best c.args.told } in
    let more : c.push_reserved.new.self.items ≡ log ++ e ∷ [] = c.push_reserved.ensures.items ∙ ap (λ entries. entries ++ e ∷ []) c.reserve.ensures.items in
    tree_more log c.push_reserved.new.self.items e more ∙ ap (λ l. l.tree) c.self.view_is

pub returns-clause-best : goal.returns-clause-best
returns-clause-best c =
    let log = c.self.inside.log.items in
    let e : Entry = record { event = Offering c.args.seat c.args.point; reply = Best c.args.told } in
    let more : c.push_reserved.new.self.items ≡ log ++ e ∷ [] = c.push_reserved.ensures.items ∙ ap (λ entries. entries ++ e ∷ []) c.reserve.ensures.items in
    let count : c.len-entry.result ≡ length log = c.len-entry.ensures ∙ c.reserve.ensures.len ∙ c.self.inside.log.ok.0 in
    (new_best log c.push_reserved.new.self.items e c.self.inside.best c.newer-best.result c.args.better c.args.point c.len-entry.result more count refl c.newer-best.ensures c.self.invariant.2).0
    ∙ ap (λ (o : Option (List Rational)). cond c.args.better (Some c.args.point) o) (ap (λ l. l.best) c.self.view_is)
