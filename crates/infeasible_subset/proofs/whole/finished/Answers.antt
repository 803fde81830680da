use Rattle.infeasible_subset.proofs.OneByOne.{refutes, irreducible}
use Rattle.infeasible_subset.proofs.whole.finished.Goals as goal

pub returns-clause-irreducible : goal.returns-clause-irreducible
returns-clause-irreducible c = irreducible c.args.problem.now c.args.underway.done c.args.underway.weights c.requires

pub returns-clause-refutes : goal.returns-clause-refutes
returns-clause-refutes c = refutes c.args.problem.now c.args.underway.done c.args.underway.weights c.requires
