use Rattle.std.proofs.Common.{◌≡◌, ◌∙◌, List, sym, ap, subst, Some, option_map}
use Rattle.milp.specs.Points.{Feasible, objective_value}
use Rattle.search_tree.specs.declared.event.Entry.{Entry}
use Rattle.search_tree.specs.Tree.{Tree, made, granted}
use Rattle.search_tree.specs.Board.{Board, better_of}
use Rattle.search_tree.specs.Kept.{HasSums}
use Rattle.search_tree.specs.Steps.{IsReplay}
use Rattle.tree_pool.proofs.Offers.{compared, new_value, offer_replays}
use Rattle.tree_pool.proofs.board.Board.offer.Goals as goal

pub value-requires : goal.value-requires
value-requires c = let P : Board → Type 0 = λ d. Feasible d.problem c.args.point in (subst P (sym c.self.view_is) c.requires.feasible).relaxed.size

pub invariant_of-self-2 : goal.invariant_of-self-2
invariant_of-self-2 c =
    let inside = c.self.inside in
    let p = inside.problem in
    let x = c.args.point in
    let old = inside.ledger.best in
    let new = c.offer.new.self in
    let r = c.is_better-better.result in
    let told = c.better_value-told.result in
    let b : Board = record { problem = inside.problem; cuts = inside.cuts; split_limit = inside.split_limit; pivot_limit = inside.pivot_limit; tree = inside.ledger.tree; best = inside.ledger.best; log = inside.ledger.log } in
    let F : Board → Type 0 = λ d. Feasible d.problem x in
    let S : Board → Type 0 = λ d. HasSums d.problem x in
    let value : c.in-Ok.value ≡ objective_value p x = c.in-Ok.ensures.is_value in
    let is_new : new.best ≡ Some (better_of p old x) = c.in_ok-offer.ensures.best ∙ compared p old x c.in-Ok.value inside.best_value c.direction.result r value c.self.invariant.2 c.direction.ensures c.is_better-better.ensures in
    let is_told : told ≡ option_map (objective_value p) new.best = c.better_value-told.ensures ∙ new_value p old x c.in-Ok.value inside.best_value r value c.self.invariant.2 ∙ ap (option_map (objective_value p)) (sym c.in_ok-offer.ensures.best) in
    let is_kept : c.better_value-kept.result ≡ option_map (objective_value p) new.best = c.better_value-kept.ensures ∙ new_value p old x c.in-Ok.value inside.best_value r value c.self.invariant.2 ∙ ap (option_map (objective_value p)) (sym c.in_ok-offer.ensures.best) in
    let replays = offer_replays b c.args.seat x told new.best c.self.invariant.3 (subst F (sym c.self.view_is) c.requires.feasible) (subst S (sym c.self.view_is) c.requires.sums) is_new is_told in
    let T : Tree → Type 0 = λ t. IsReplay (record { problem = inside.problem; cuts = inside.cuts; split_limit = inside.split_limit; pivot_limit = inside.pivot_limit; tree = t; best = new.best; log = new.log }) in
    let Q : List Entry → Type 0 = λ entries. IsReplay (record { problem = inside.problem; cuts = inside.cuts; split_limit = inside.split_limit; pivot_limit = inside.pivot_limit; tree = inside.ledger.tree; best = new.best; log = entries }) in
    (c.self.invariant.0 ∙ ap made (sym c.in_ok-offer.ensures.tree), c.self.invariant.1 ∙ ap granted (sym c.in_ok-offer.ensures.tree), is_kept, subst T (sym c.in_ok-offer.ensures.tree) (subst Q (sym c.in_ok-offer.ensures.log) replays))
