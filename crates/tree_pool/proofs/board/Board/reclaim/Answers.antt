use Rattle.std.proofs.Common.{◌≡◌, ◌∙◌, List, sym, ap, subst, Option, option_map}
use Rattle.rational.specs.Rational.{Rational}
use Rattle.milp.specs.Points.{objective_value}
use Rattle.search_tree.specs.declared.event.Entry.{Entry}
use Rattle.search_tree.specs.Tree.{made, reclaimed}
use Rattle.search_tree.specs.Board.{Board}
use Rattle.search_tree.specs.Steps.{IsReplay}
use Rattle.search_tree.proofs.Laws.{made_reclaimed}
use Rattle.tree_pool.proofs.Replays.{none_granted, reclaim_replays}
use Rattle.tree_pool.proofs.board.Board.reclaim.Goals as goal

pub invariant_of-self-2 : goal.invariant_of-self-2
invariant_of-self-2 c =
    let inside = c.self.inside in
    let b : Board = record { problem = inside.problem; cuts = inside.cuts; split_limit = inside.split_limit; pivot_limit = inside.pivot_limit; tree = inside.ledger.tree; best = inside.ledger.best; log = inside.ledger.log } in
    let new = c.reclaim.new.self in
    let e : new.tree ≡ reclaimed inside.ledger.tree = c.in_ok-reclaim.ensures.tree in
    let replays = reclaim_replays b new.tree c.self.invariant.3 e in
    let Q : List Entry → Type 0 = λ entries. IsReplay (record { problem = inside.problem; cuts = inside.cuts; split_limit = inside.split_limit; pivot_limit = inside.pivot_limit; tree = new.tree; best = inside.ledger.best; log = entries }) in
    let best : new.best ≡ inside.ledger.best = c.in_ok-reclaim.ensures.best in
    let V : Option (List Rational) → Type 0 = λ o. inside.best_value ≡ option_map (objective_value inside.problem) o in
    let R : Option (List Rational) → Type 0 = λ o. IsReplay (record { problem = inside.problem; cuts = inside.cuts; split_limit = inside.split_limit; pivot_limit = inside.pivot_limit; tree = new.tree; best = o; log = new.log }) in
    (c.self.invariant.0 ∙ sym (ap made e ∙ made_reclaimed inside.ledger.tree), none_granted inside.ledger.tree new.tree e, subst V (sym best) c.self.invariant.2, subst R (sym best) (subst Q (sym c.in_ok-reclaim.ensures.log) replays))
