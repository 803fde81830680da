use Rattle.std.proofs.Common.{◌≡◌, ◌∙◌, ◌++◌, ◌∷◌, [], length, ap, subst, arith}
use Rattle.std.specs.Vec.{vec_len}
use Rattle.search_tree.specs.declared.event.Entry.{Entry}
use Rattle.search_tree.specs.declared.event.Event.TheVariants.{Leasing}
use Rattle.search_tree.specs.declared.event.Reply.TheVariants.{Given}
use Rattle.tree_pool.specs.declared.kind.Kind.TheVariants.{ToDo}
use Rattle.tree_pool.specs.Grown.{tree_after}
use Rattle.tree_pool.specs.Ledger.{Ledger, IsTaken, best_at}
use Rattle.tree_pool.proofs.KindLemmas.{place_in}
use Rattle.tree_pool.proofs.Ledgers.{leased_nodes, leased_in_log, leased_is, same_best, best_in_log, unchanged}
use Rattle.tree_pool.proofs.ledger.Ledger.lease.Goals as goal

pub way_to-requires : goal.way_to-requires
way_to-requires c =
    let at = place_in ToDo c.self.inside.log.items c.deref.result.now c.self.inside.nodes.items c.deref-2.result.now c.args.place c.deref.ensures.value c.deref-2.ensures.value (c.is_todo_at.ensures.yes c.if-not-is_todo_at.false) in
    let less = at.within in
    let each = c.self.invariant.0.each in
    omega (arith, less, each)

pub index_mut-requires : goal.index_mut-requires
index_mut-requires c =
    let at = place_in ToDo c.self.inside.log.items c.deref.result.now c.self.inside.nodes.items c.deref-2.result.now c.args.place c.deref.ensures.value c.deref-2.ensures.value (c.is_todo_at.ensures.yes c.if-not-is_todo_at.false) in
    let less = at.within in
    let room : vec_len c.self.inside.nodes ≡ length c.self.inside.nodes.items = c.self.inside.nodes.ok.0 in
    omega (arith, less, room)

pub invariant_of-self : goal.invariant_of-self
invariant_of-self c = unchanged c.self.inside.log.items c.reserve.new.self.items c.self.inside.paths.all c.self.inside.nodes.items c.self.inside.best c.reserve.ensures.items c.self.invariant

pub invariant_of-self-2 : goal.invariant_of-self-2
invariant_of-self-2 c =
    let log = c.self.inside.log.items in
    let refs = c.self.inside.nodes.items in
    let e : Entry = record { event = Leasing c.args.seat; reply = Given c.in_ok-told.told c.args.lease } in
    let at = place_in ToDo log c.deref.result.now refs c.deref-2.result.now c.args.place c.deref.ensures.value c.deref-2.ensures.value (c.is_todo_at.ensures.yes c.if-not-is_todo_at.false) in
    let more : c.push_reserved.new.self.items ≡ log ++ e ∷ [] = c.push_reserved.ensures.items ∙ ap (λ entries. entries ++ e ∷ []) c.reserve.ensures.items in
    let count : c.len-entry.result ≡ length log = c.len-entry.ensures ∙ c.reserve.ensures.len ∙ c.self.inside.log.ok.0 in (
      leased_nodes log c.push_reserved.new.self.items c.args.seat c.in_ok-told.told c.args.lease c.self.inside.paths.all refs c.args.place c.len-entry.result more count c.in_ok-told.ensures c.self.invariant.1 c.self.invariant.0 at,
      leased_in_log log c.push_reserved.new.self.items e refs c.args.place c.len-entry.result more count c.self.invariant.1,
      best_in_log log c.push_reserved.new.self.items e c.self.inside.best more c.self.invariant.2,
    )

pub returns-clause-ok : goal.returns-clause-ok
returns-clause-ok c =
    let log = c.self.inside.log.items in
    let refs = c.self.inside.nodes.items in
    let e : Entry = record { event = Leasing c.args.seat; reply = Given c.in_ok-told.told c.args.lease } in
    let at = place_in ToDo log c.deref.result.now refs c.deref-2.result.now c.args.place c.deref.ensures.value c.deref-2.ensures.value (c.is_todo_at.ensures.yes c.if-not-is_todo_at.false) in
    let more : c.push_reserved.new.self.items ≡ log ++ e ∷ [] = c.push_reserved.ensures.items ∙ ap (λ entries. entries ++ e ∷ []) c.reserve.ensures.items in
    let best = same_best log c.push_reserved.new.self.items e c.self.inside.best more c.self.invariant.2 in
    let news = c.push_reserved.new.self.items in
    let m : Ledger = record { log = news; tree = tree_after news; best = best_at news c.self.inside.best } in
    let P : Ledger → Type 0 = λ l. IsTaken l c.args.seat c.args.lease m in
    subst P c.self.view_is
    (leased_is log c.push_reserved.new.self.items c.args.seat c.in_ok-told.told c.args.lease c.self.inside.paths.all refs c.args.place c.self.inside.best more c.in_ok-told.ensures c.self.invariant.0 at best)
