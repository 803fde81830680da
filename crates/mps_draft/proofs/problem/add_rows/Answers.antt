-- One row less is left.
use Rattle.std.proofs.Common.{◌≡◌, ◌∷◌, rules}
use Rattle.std.specs.Vec.Iter.{into_iter_items}
use Rattle.mps_draft.proofs.Building.{all-left, next-new, next-added}
use Rattle.mps_draft.proofs.problem.add_rows.Goals as goal

pub loop-row-init : goal.loop-row-init
loop-row-init c =
    let all : into_iter_items c.into_iter-row-iterator.result ≡ c.args.rows.items = search rules in
    (tt, tt, all-left c.args.builder.now c.args.rows.items _ all c.requires.empty c.requires.new c.requires.few c.requires.given c.requires.entries)

pub add_declared_row-requires-clause-new : goal.add_declared_row-requires-clause-new
add_declared_row-requires-clause-new c =
    let split : into_iter_items c.loop-row.row-iterator ≡ c.in-Some.row ∷ into_iter_items c.next.new.self = search rules in
    next-new c.loop-row.builder _ c.in-Some.row _ (into_iter_items c.next.new.self) split (c.loop-row.invariant).2

pub loop-row-preserved : goal.loop-row-preserved
loop-row-preserved c =
    let split : into_iter_items c.loop-row.row-iterator ≡ c.in-Some.row ∷ into_iter_items c.next.new.self = search rules in
    (tt, tt, next-added c.loop-row.builder c.add_declared_row.new.builder _ c.in-Some.row _ (into_iter_items c.next.new.self) c.in_ok-add_declared_row.ensures split (c.loop-row.invariant).2)
