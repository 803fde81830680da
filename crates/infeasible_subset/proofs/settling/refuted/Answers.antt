use Rattle.std.proofs.Common.{◌∙◌, ap}
use Rattle.infeasible_subset.specs.Members.{both}
use Rattle.infeasible_subset.proofs.OneByOne.{used, dropped, left_fewer}
use Rattle.infeasible_subset.proofs.settling.refuted.Goals as goal

pub returns-clause-underway : goal.returns-clause-underway
returns-clause-underway c =
    let u = c.args.underway.now in
    dropped c.args.problem.now u.done c.args.member.now u.left c.in_ok-left.left u.weights c.args.weights c.requires.underway c.requires.refuted (c.in_ok-left.ensures ∙ ap (λ ms. both ms (used c.args.weights)) c.as_slice.ensures)

pub returns-clause-fewer : goal.returns-clause-fewer
returns-clause-fewer c = left_fewer c.in_ok-left.left c.as_slice.result.now c.args.underway.now.left (used c.args.weights) c.in_ok-left.ensures c.as_slice.ensures
