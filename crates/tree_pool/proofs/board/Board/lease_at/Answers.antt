use Rattle.std.proofs.Common.{◌≡◌, ◌∙◌, ◌+◌, ◌-◌, min, ℕ, List, refl, sym, ap, subst, length, Option, option_map}
use Rattle.search_tree.specs.declared.leaf.Lease.{Lease}
use Rattle.search_tree.specs.declared.leaf.Leaf.TheVariants.{Leased}
use Rattle.search_tree.specs.declared.event.Entry.{Entry}
use Rattle.search_tree.specs.Tree.{AtLeaf, made, granted, replaced}
use Rattle.search_tree.specs.Board.{Board, most_granted, next_lease, next_grant}
use Rattle.search_tree.specs.Steps.{IsReplay}
use Rattle.tree_pool.proofs.Leases.{IsTodoOn, made_after, granted_after, lease_replays, same_lease, sum_fits}
use Rattle.search_tree.proofs.Laws.{replay_kept}
use Rattle.rational.specs.Rational.{Rational}
use Rattle.milp.specs.Points.{objective_value}
use Rattle.tree_pool.proofs.board.Board.lease_at.Goals as goal

pub invariant_of-self-2 : goal.invariant_of-self-2
invariant_of-self-2 c =
    let inside = c.self.inside in
    let b : Board = record { problem = inside.problem; cuts = inside.cuts; split_limit = inside.split_limit; pivot_limit = inside.pivot_limit; tree = inside.ledger.tree; best = inside.ledger.best; log = inside.ledger.log } in
    let taken = c.in_ok-lease.ensures.ok in
    let at : IsTodoOn inside.ledger.tree = record { way = taken.way; leaf = taken.leaf; is_todo = taken.is_todo; there = taken.there } in
    let lease : Lease = c.copy.result in
    let e : c.lease.new.self.tree ≡ replaced inside.ledger.tree at.way (AtLeaf (Leased lease)) = taken.tree in
    let number : c.count-number.result ≡ length inside.ledger.log = c.count-number.ensures in
    let grant : c.next_grant-grant.result ≡ next_grant b = c.next_grant-grant.ensures.grant ∙ ap (λ n. min most_granted (inside.split_limit - (n + inside.splits_granted))) c.self.invariant.0 ∙ ap (λ n. min most_granted (inside.split_limit - (made inside.ledger.tree + n))) c.self.invariant.1 in
    let is_lease : lease ≡ next_lease b = c.copy.ensures ∙ same_lease _ _ _ _ _ _ number grant c.self.invariant.2 in
    let replays = lease_replays b c.args.seat at taken.way lease c.lease.new.self.tree c.self.invariant.3 refl is_lease e in
    let Q : List Entry → Type 0 = λ entries. IsReplay (record { problem = inside.problem; cuts = inside.cuts; split_limit = inside.split_limit; pivot_limit = inside.pivot_limit; tree = c.lease.new.self.tree; best = inside.ledger.best; log = entries }) in
    let best : c.lease.new.self.best ≡ inside.ledger.best = taken.best in
    let V : Option (List Rational) → Type 0 = λ o. inside.best_value ≡ option_map (objective_value inside.problem) o in
    let B : Option (List Rational) → Type 0 = λ o. IsReplay (record { problem = inside.problem; cuts = inside.cuts; split_limit = inside.split_limit; pivot_limit = inside.pivot_limit; tree = c.lease.new.self.tree; best = o; log = c.lease.new.self.log }) in
    let kept = replay_kept _ replays in
    let more : inside.splits_granted + c.next_grant-grant.result ≡ granted c.lease.new.self.tree = ap (λ n. n + c.next_grant-grant.result) c.self.invariant.1 ∙ ap (λ l. granted inside.ledger.tree + l) (sym (ap grant_in c.copy.ensures)) ∙ granted_after inside.ledger.tree at lease c.lease.new.self.tree e in
    (c.self.invariant.0 ∙ made_after inside.ledger.tree at lease c.lease.new.self.tree e, sum_fits _ _ _ _ _ inside.split_limit (made c.lease.new.self.tree) c.saturating_add-self-inside.ensures more kept.within c.next_grant-grant.ensures.limit, subst V (sym best) c.self.invariant.2, subst B (sym best) (subst Q (sym taken.log) replays))
  where
    grant_in : Lease → ℕ
    grant_in l = l.grant
