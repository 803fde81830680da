use Rattle.std.proofs.Common.{◌≡◌, Ok, Result, rules}
use Rattle.rational.specs.Rational.{Rational, zero_ℚ}
use Rattle.fraction.specs.declared.frac.NoFit.{NoFit}
use Rattle.exact_ranges.specs.Faults.{using_answer}
use Rattle.exact_ranges.specs.Sought.{side_of}
use Rattle.exact_ranges.specs.ShownBest.{best_point, best_weights}
use Rattle.exact_ranges.proofs.UsedBounds.{weight_is, made_used}
use Rattle.exact_ranges.proofs.used.used_at.Goals as goal

pub returns-clause-made : goal.returns-clause-made
returns-clause-made c =
    let w = best_weights c.args.certificate.now in
    let v = c.in_ok-weight.weight in
    let s = side_of c.args.side in
    let summed : Result Rational NoFit = Ok v in
    let is : summed ≡ using_answer c.args.row s zero_ℚ w.rows = search rules in
    made_used c.args.problem.now (best_point c.args.certificate.now) w c.args.row c.args.side c.args.bound v c.total_of-total.result (weight_is c.args.row s w.rows v is) c.total_of-total.ensures
