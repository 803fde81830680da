use Rattle.std.proofs.Common.{ℕ, ◌<◌, ◌∙◌, sym, ap, subst, refl, Option, Some, None}
use Rattle.std.specs.Option.{IsSome}
use Rattle.turn_pool.specs.declared.view.Key.{Key}
use Rattle.turn_pool.specs.Logs.{Has}
use Rattle.turn_pool.specs.Turns.{held}
use Rattle.turn_pool.proofs.Hands.{closes_with}
use Rattle.turn_pool.proofs.pass.Pool.close.Goals as goal

abbrev value_or : {A : Type 0} → A → Option A → A
value_or d None = d
value_or d (Some a) = a

pub unwrap-requires : goal.unwrap-requires
unwrap-requires g c =
    let v = c.args.pass.seat.me.0 in
    let t = closes_with g.B.Machine.touched g.B.Machine.log g.B.Machine.replays c.args.self.table.shared.key _ v _ _ _ c.close_with-closed.ensures.values.2 c.args.pass.rests.1
    (subst (λ (x : Key g.row.B.Denot). (k : ℕ) → k < x.seats → Has (held v) k) c.requires.pool.1 c.requires.all) c.take-machine.ensures.value in
    subst IsSome (sym t.1) refl

pub returns-clause-log : goal.returns-clause-log
returns-clause-log g c =
    let v = c.args.pass.seat.me.0 in
    let t = closes_with g.B.Machine.touched g.B.Machine.log g.B.Machine.replays c.args.self.table.shared.key _ v _ _ _ c.close_with-closed.ensures.values.2 c.args.pass.rests.1
    (subst (λ (x : Key g.row.B.Denot). (k : ℕ) → k < x.seats → Has (held v) k) c.requires.pool.1 c.requires.all) c.take-machine.ensures.value in
    ap g.B.Machine.log (ap (value_or t.0) (sym c.unwrap.ensures ∙ t.1)) ∙ t.2

pub returns-clause-replay : goal.returns-clause-replay
returns-clause-replay g c =
    let v = c.args.pass.seat.me.0 in
    let t = closes_with g.B.Machine.touched g.B.Machine.log g.B.Machine.replays c.args.self.table.shared.key _ v _ _ _ c.close_with-closed.ensures.values.2 c.args.pass.rests.1
    (subst (λ (x : Key g.row.B.Denot). (k : ℕ) → k < x.seats → Has (held v) k) c.requires.pool.1 c.requires.all) c.take-machine.ensures.value in
    subst (λ (b : g.row.B.Denot). g.B.Machine.replays c.args.self.table.shared.key.first.value b) (sym (ap (value_or t.0) (sym c.unwrap.ensures ∙ t.1))) t.3
