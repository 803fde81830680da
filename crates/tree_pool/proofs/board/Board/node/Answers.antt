use Rattle.std.proofs.Common.{◌≡◌, ◌∙◌, Some, [], refl, sym, ap, subst, append-nil}
use Rattle.search_node.specs.Sides.{sides_of}
use Rattle.search_tree.specs.declared.leaf.Leaf.TheVariants.{Leased}
use Rattle.search_tree.specs.Tree.{AtLeaf, at_place, sides_to}
use Rattle.search_tree.specs.Board.{Board}
use Rattle.search_tree.proofs.Laws.{replay_kept}
use Rattle.tree_pool.specs.Places.{taken_to}
use Rattle.tree_pool.proofs.Sides.{sides_are}
use Rattle.tree_pool.proofs.board.Board.node.Goals as goal

pub splits_under-requires : goal.splits_under-requires
splits_under-requires c =
    let inside = c.self.inside in
    let b : Board = record { problem = inside.problem; cuts = inside.cuts; split_limit = inside.split_limit; pivot_limit = inside.pivot_limit; tree = inside.ledger.tree; best = inside.ledger.best; log = inside.ledger.log } in
    (replay_kept b c.self.invariant.3).one_lease c.args.lease.number

pub returns : goal.returns
returns c = λ way there.
    let inside = c.self.inside in
    let P : Board → Type 0 = λ d. at_place d.tree way ≡ Some (AtLeaf (Leased c.args.lease)) in
    let here = subst P (sym c.self.view_is) there in
    ap sides_of (c.from_vec.ensures ∙ c.in_ok-taken.ensures way c.args.lease here refl) ∙ sym (append-nil (sides_of (taken_to inside.ledger.tree way))) ∙ sides_are inside.ledger.tree way [] ∙ ap (λ d. sides_to d.tree way []) c.self.view_is
