use Rattle.std.proofs.Common.{◌≡◌, [], sym, subst, option_map}
use Rattle.milp.specs.Points.{objective_value}
use Rattle.search_tree.specs.Tree.{IsTodo, AllLeaves, made, granted}
use Rattle.search_tree.specs.Board.{Board}
use Rattle.search_tree.specs.Steps.{IsReplay}
use Rattle.tree_pool.specs.Ledger.{Ledger}
use Rattle.tree_pool.proofs.Replays.{idle_replays}
use Rattle.tree_pool.proofs.board.Board.idle.Goals as goal

pub invariant_of-self-2 : goal.invariant_of-self-2
invariant_of-self-2 c =
    let inside = c.self.inside in
    let b : Board = record { problem = inside.problem; cuts = inside.cuts; split_limit = inside.split_limit; pivot_limit = inside.pivot_limit; tree = inside.ledger.tree; best = inside.ledger.best; log = inside.ledger.log } in
    let P : Board → Type 0 = λ d. AllLeaves (λ sides leaf. ¬ (IsTodo leaf)) [] d.tree in
    let none = subst P (sym c.self.view_is) c.requires in
    let replays = idle_replays b c.args.seat c.in_ok-count.count c.self.invariant.3 none c.in_ok-count.ensures in
    let Q : Ledger → Type 0 = λ l. (inside.splits_made ≡ made l.tree) × (inside.splits_granted ≡ granted l.tree) × (inside.best_value ≡ option_map (objective_value inside.problem) l.best) × IsReplay (record { problem = inside.problem; cuts = inside.cuts; split_limit = inside.split_limit; pivot_limit = inside.pivot_limit; tree = l.tree; best = l.best; log = l.log }) in
    subst Q (sym c.in_ok-idle.ensures.ok) (c.self.invariant.0, c.self.invariant.1, c.self.invariant.2, replays)
