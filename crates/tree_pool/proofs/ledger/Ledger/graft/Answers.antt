use Rattle.std.proofs.Common.{◌≡◌, ◌∙◌, ◌≤◌, ◌++◌, ◌∷◌, [], length, sym, ap, subst, slice_get}
use Rattle.search_tree.specs.declared.event.Entry.{Entry}
use Rattle.search_tree.specs.declared.event.Event.TheVariants.{Grafting}
use Rattle.search_tree.specs.declared.event.Reply.TheVariants.{Best}
use Rattle.search_tree.specs.Tree.{leased_under}
use Rattle.search_tree.specs.Slots.{slots_of}
use Rattle.tree_pool.specs.declared.kind.Kind.TheVariants.{LeasedUnder}
use Rattle.tree_pool.specs.LogNodes.{put_in}
use Rattle.tree_pool.specs.Placed.{paths_with, refs_with}
use Rattle.tree_pool.specs.Grown.{put_under}
use Rattle.tree_pool.specs.Ledger.{Ledger}
use Rattle.tree_pool.proofs.Results.{where_ok}
use Rattle.tree_pool.proofs.KindLemmas.{place_in}
use Rattle.tree_pool.proofs.LogNodes.{entry_at}
use Rattle.tree_pool.proofs.Ledgers.{put_nodes, put_in_log, same_best, best_in_log, same_parts, tree_more}
use Rattle.tree_pool.proofs.ledger.Ledger.graft.Goals as goal

pub invariant_of-self : goal.invariant_of-self
invariant_of-self c =
    same_parts c.self.inside.log.items c.make_room.new.log.items c.self.inside.paths.all c.make_room.new.paths.all c.self.inside.nodes.items c.make_room.new.nodes.items c.self.inside.best
    c.make_room.ensures.same_log c.make_room.ensures.same_paths c.make_room.ensures.same_nodes c.self.invariant

pub put_tree-requires-clause-room : goal.put_tree-requires-clause-room
put_tree-requires-clause-room c =
    let log = c.self.inside.log.items in
    let e : Entry = record { event = Grafting c.args.seat c.args.lease c.args.tree; reply = Best c.args.best } in
    let fits = sym c.is_err.ensures.value ∙ c.if-is_err.false in
    let more : c.push_reserved.new.self.items ≡ log ++ e ∷ [] = c.push_reserved.ensures.items ∙ ap (λ entries. entries ++ e ∷ []) c.make_room.ensures.same_log in
    let count : c.len-entry.result ≡ length log = c.len-entry.ensures ∙ c.make_room.new.log.ok.0 ∙ ap length c.make_room.ensures.same_log in
    (c.args.tree, ap (λ es. put_in (slice_get es c.len-entry.result)) c.deref-4.ensures.value ∙ ap put_in (entry_at log c.push_reserved.new.self.items e c.len-entry.result more count), where_ok c.make_room.result _ fits c.make_room.ensures.nodes, where_ok c.make_room.result _ fits c.make_room.ensures.paths)

pub invariant_of-self-2 : goal.invariant_of-self-2
invariant_of-self-2 c =
    let log = c.self.inside.log.items in
    let news = c.push_reserved.new.self.items in
    let refs = c.self.inside.nodes.items in
    let paths = c.self.inside.paths.all in
    let place = c.in-Some.place in
    let entry = c.len-entry.result in
    let tree = c.args.tree in
    let e : Entry = record { event = Grafting c.args.seat c.args.lease tree; reply = Best c.args.best } in
    let at = place_in (LeasedUnder c.args.lease.number) log c.deref.result.now refs c.deref-2.result.now place c.deref.ensures.value c.deref-2.ensures.value c.in-Some.ensures.under in
    let more : news ≡ log ++ e ∷ [] = c.push_reserved.ensures.items ∙ ap (λ entries. entries ++ e ∷ []) c.make_room.ensures.same_log in
    let count : entry ≡ length log = c.len-entry.ensures ∙ c.make_room.new.log.ok.0 ∙ ap length c.make_room.ensures.same_log in
    let P : Ledger → Type 0 = λ l. leased_under c.args.lease.number l.tree ≤ 1 in
    let one = subst P (sym c.self.view_is) c.requires.one in
    let put : put_in (slice_get c.deref-4.result.now entry) ≡ slots_of tree = ap (λ es. put_in (slice_get es entry)) c.deref-4.ensures.value ∙ ap put_in (entry_at log news e entry more count) in
    let nodes : c.put_tree.new.nodes.items ≡ refs_with entry 0 place tree refs = c.put_tree.ensures.nodes tree put ∙ ap (refs_with entry 0 place tree) c.make_room.ensures.same_nodes in
    let others : c.put_tree.new.paths.all ≡ paths_with place tree paths = c.put_tree.ensures.paths tree put ∙ ap (paths_with place tree) c.make_room.ensures.same_paths in (
      put_nodes log news c.args.seat c.args.lease tree (Best c.args.best) paths c.put_tree.new.paths.all refs c.put_tree.new.nodes.items place entry more count one c.self.invariant.1 c.self.invariant.0 at nodes others,
      put_in_log log news e tree refs c.put_tree.new.nodes.items place entry more count nodes c.self.invariant.1,
      best_in_log log news e c.self.inside.best more c.self.invariant.2,
    )

pub returns-clause-tree : goal.returns-clause-tree
returns-clause-tree c =
    let log = c.self.inside.log.items in
    let e : Entry = record { event = Grafting c.args.seat c.args.lease c.args.tree; reply = Best c.args.best } in
    let more : c.push_reserved.new.self.items ≡ log ++ e ∷ [] = c.push_reserved.ensures.items ∙ ap (λ entries. entries ++ e ∷ []) c.make_room.ensures.same_log in
    tree_more log c.push_reserved.new.self.items e more ∙ ap (λ l. put_under c.args.lease.number c.args.tree l.tree) c.self.view_is

pub returns-clause-best : goal.returns-clause-best
returns-clause-best c =
    let log = c.self.inside.log.items in
    let e : Entry = record { event = Grafting c.args.seat c.args.lease c.args.tree; reply = Best c.args.best } in
    let more : c.push_reserved.new.self.items ≡ log ++ e ∷ [] = c.push_reserved.ensures.items ∙ ap (λ entries. entries ++ e ∷ []) c.make_room.ensures.same_log in
    same_best log c.push_reserved.new.self.items e c.self.inside.best more c.self.invariant.2 ∙ ap (λ l. l.best) c.self.view_is
