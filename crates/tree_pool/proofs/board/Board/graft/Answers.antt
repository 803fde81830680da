use Rattle.std.proofs.Common.{◌≡◌, ◌∙◌, ◌+◌, ◌-◌, List, refl, sym, ap, subst, Option, option_map}
use Rattle.rational.specs.Rational.{Rational}
use Rattle.milp.specs.Points.{objective_value}
use Rattle.certificate.specs.declared.split.Side.{Side as SideOf}
use Rattle.search_tree.specs.declared.event.Entry.{Entry}
use Rattle.search_tree.specs.Tree.{made, granted, replaced}
use Rattle.search_tree.specs.Board.{Board}
use Rattle.search_tree.specs.Steps.{MayGraft, IsGraft, IsReplay}
use Rattle.search_tree.proofs.Laws.{replay_kept}
use Rattle.tree_pool.proofs.Grafts.{graft_is, graft_replays, made_grafted, granted_grafted, made_fits}
use Rattle.tree_pool.proofs.Unders.{put_is}
use Rattle.tree_pool.proofs.board.Board.graft.Goals as goal

pub graft-requires : goal.graft-requires
graft-requires c =
    let inside = c.self.inside in
    let b : Board = record { problem = inside.problem; cuts = inside.cuts; split_limit = inside.split_limit; pivot_limit = inside.pivot_limit; tree = inside.ledger.tree; best = inside.ledger.best; log = inside.ledger.log } in
    record { one = (replay_kept b c.self.invariant.3).one_lease c.args.lease.number }

pub invariant_of-self-2 : goal.invariant_of-self-2
invariant_of-self-2 c =
    let inside = c.self.inside in
    let b : Board = record { problem = inside.problem; cuts = inside.cuts; split_limit = inside.split_limit; pivot_limit = inside.pivot_limit; tree = inside.ledger.tree; best = inside.ledger.best; log = inside.ledger.log } in
    let P : Board → Type 0 = λ d. (way : List SideOf) × MayGraft d way c.args.lease c.args.tree in
    let may = subst P (sym c.self.view_is) c.requires in
    let one = (replay_kept b c.self.invariant.3).one_lease c.args.lease.number in
    let new = c.graft.new.self in
    let e : new.tree ≡ replaced inside.ledger.tree may.0 c.args.tree = c.in_ok-graft.ensures.tree ∙ put_is inside.ledger.tree may.0 c.args.lease c.args.lease.number c.args.tree may.1.is_leased refl one in
    let replays = graft_replays b may.0 c.args.seat c.args.lease c.args.tree new.tree inside.best_value may.1 c.self.invariant.3 c.self.invariant.2 e in
    let Q : List Entry → Type 0 = λ entries. IsReplay (record { problem = inside.problem; cuts = inside.cuts; split_limit = inside.split_limit; pivot_limit = inside.pivot_limit; tree = new.tree; best = inside.ledger.best; log = entries }) in
    let best : new.best ≡ inside.ledger.best = c.in_ok-graft.ensures.best in
    let V : Option (List Rational) → Type 0 = λ o. inside.best_value ≡ option_map (objective_value inside.problem) o in
    let R : Option (List Rational) → Type 0 = λ o. IsReplay (record { problem = inside.problem; cuts = inside.cuts; split_limit = inside.split_limit; pivot_limit = inside.pivot_limit; tree = new.tree; best = o; log = new.log }) in
    let kept = replay_kept _ replays in
    let more : inside.splits_made + c.splits-made.result ≡ made new.tree = ap (λ n. n + c.splits-made.result) c.self.invariant.0 ∙ ap (λ n. made inside.ledger.tree + n) c.splits-made.ensures ∙ made_grafted b may.0 c.args.lease c.args.tree new.tree may.1 e in
    let less : c.saturating_sub-self-inside.result ≡ granted new.tree = c.saturating_sub-self-inside.ensures ∙ ap (λ n. n - c.args.lease.grant) c.self.invariant.1 ∙ granted_grafted b may.0 c.args.lease c.args.tree new.tree may.1 e in
    (made_fits c.sum-self-inside.result inside.splits_made c.splits-made.result (made new.tree) (granted new.tree) inside.split_limit c.sum-self-inside.ensures more kept.within, less, subst V (sym best) c.self.invariant.2, subst R (sym best) (subst Q (sym c.in_ok-graft.ensures.log) replays))

pub returns-clause-ok : goal.returns-clause-ok
returns-clause-ok c =
    let inside = c.self.inside in
    let b : Board = record { problem = inside.problem; cuts = inside.cuts; split_limit = inside.split_limit; pivot_limit = inside.pivot_limit; tree = inside.ledger.tree; best = inside.ledger.best; log = inside.ledger.log } in
    let P : Board → Type 0 = λ d. (way : List SideOf) × MayGraft d way c.args.lease c.args.tree in
    let may = subst P (sym c.self.view_is) c.requires in
    let one = (replay_kept b c.self.invariant.3).one_lease c.args.lease.number in
    let new = c.graft.new.self in
    let e : new.tree ≡ replaced inside.ledger.tree may.0 c.args.tree = c.in_ok-graft.ensures.tree ∙ put_is inside.ledger.tree may.0 c.args.lease c.args.lease.number c.args.tree may.1.is_leased refl one in
    let is = graft_is b may.0 c.args.seat c.args.lease c.args.tree new.tree inside.best_value may.1 c.self.invariant.2 e in
    let Q : List Entry → Type 0 = λ entries. IsGraft b c.args.seat c.args.lease c.args.tree inside.best_value (record { problem = inside.problem; cuts = inside.cuts; split_limit = inside.split_limit; pivot_limit = inside.pivot_limit; tree = new.tree; best = inside.ledger.best; log = entries }) in
    let R : Option (List Rational) → Type 0 = λ o. IsGraft b c.args.seat c.args.lease c.args.tree inside.best_value (record { problem = inside.problem; cuts = inside.cuts; split_limit = inside.split_limit; pivot_limit = inside.pivot_limit; tree = new.tree; best = o; log = new.log }) in
    let here = subst R (sym c.in_ok-graft.ensures.best) (subst Q (sym c.in_ok-graft.ensures.log) is) in
    let S : Board → Type 0 = λ d. IsGraft d c.args.seat c.args.lease c.args.tree inside.best_value (record { problem = inside.problem; cuts = inside.cuts; split_limit = inside.split_limit; pivot_limit = inside.pivot_limit; tree = new.tree; best = new.best; log = new.log }) in
    subst S c.self.view_is here
