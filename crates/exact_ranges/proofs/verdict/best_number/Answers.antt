use Rattle.std.proofs.Common.{subst}
use Rattle.milp.specs.Problem.{Problem}
use Rattle.branch_search.specs.WholeFaults as search
use Rattle.exact_ranges.specs.Sought.{wanted_by}
use Rattle.exact_ranges.specs.Parts.{problem_of}
use Rattle.exact_ranges.proofs.verdict.best_number.Goals as goal

pub returns-clause-fault : goal.returns-clause-fault
returns-clause-fault c =
    let q = problem_of c.args.columns.now c.args.rows.now (wanted_by c.args.sought.now) c.args.column in
    λ p x w a. (q, a, subst (λ (t : Problem). search.IsFault t 0 c.args.pivot_limit c.in-Err.fault) c.in_ok-auxiliary.ensures.made c.in-Err.ensures.fault)
