use Rattle.std.proofs.Common.{rules, ◌∙◌, inl, inr}
use Rattle.turn_pool.specs.Passes.{view_of}
use Rattle.turn_pool.proofs.Joined.{joined_key, joined_used, joined_has}
use Rattle.pool_rows.proofs.Leases.{maybe_grown}
use Rattle.pool_rows.proofs.ends.takes_in.Goals as goal

pub returns-then-is_none-clause-ready : goal.returns-then-is_none-clause-ready
returns-then-is_none-clause-ready c =
    let v = view_of c.args.worker.now.pass in
    let w = view_of c.args.other.pass in
    let n = view_of c.join.new.pass in (
      (search rules, joined_key v w n c.join.ensures.view ∙ c.requires.worker.0.1),
      maybe_grown w.spans n.spans w.seen n.seen c.args.other.held c.requires.other.1 c.join.ensures.others (λ k h. joined_used v w n c.join.ensures.view k (inr h)),
    )

pub returns-then-is_none-clause-numbers : goal.returns-then-is_none-clause-numbers
returns-then-is_none-clause-numbers c = λ k h. joined_has (view_of c.args.worker.now.pass) (view_of c.args.other.pass) (view_of c.join.new.pass) c.join.ensures.view k h

pub returns-else-is_none-clause-ready : goal.returns-else-is_none-clause-ready
returns-else-is_none-clause-ready c =
    let v = view_of c.args.worker.now.pass in
    let w = view_of c.args.other.pass in
    let n = view_of c.join.new.pass in (
      (search rules, joined_key v w n c.join.ensures.view ∙ c.requires.worker.0.1),
      maybe_grown v.spans n.spans v.seen n.seen c.args.worker.now.held c.requires.worker.1 c.join.ensures.mine (λ k h. joined_used v w n c.join.ensures.view k (inl h)),
    )

pub returns-else-is_none-clause-numbers : goal.returns-else-is_none-clause-numbers
returns-else-is_none-clause-numbers c = λ k h. joined_has (view_of c.args.worker.now.pass) (view_of c.args.other.pass) (view_of c.join.new.pass) c.join.ensures.view k h
