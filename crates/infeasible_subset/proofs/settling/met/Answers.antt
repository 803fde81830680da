use Rattle.infeasible_subset.proofs.OneByOne.{found, when_pushed}
use Rattle.infeasible_subset.proofs.settling.met.Goals as goal

pub returns-clause-underway : goal.returns-clause-underway
returns-clause-underway c =
    let u = c.args.underway.now in
    when_pushed c.push.result c.args.problem.now c.push.new.self _ u.left u.weights c.push.ensures.ok (found c.args.problem.now u.done c.args.member u.left u.weights c.args.point c.requires.underway c.requires.met)
