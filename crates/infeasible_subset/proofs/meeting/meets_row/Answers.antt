use Rattle.std.proofs.Common.{◌≡◌, ◌∙◌, Ok, Result, sym, rules}
use Rattle.rational.specs.Rational.{Rational, zero_ℚ}
use Rattle.fraction.specs.declared.frac.NoFit.{NoFit}
use Rattle.instance.specs.Sums.{sum_answer}
use Rattle.infeasible_subset.specs.Meeting.{lies_inside}
use Rattle.infeasible_subset.proofs.EachMet.{row_met}
use Rattle.infeasible_subset.proofs.meeting.meets_row.Goals as goal

pub returns-in-Ok : goal.returns-in-Ok
returns-in-Ok c =
    let r = c.args.row.now in
    let summed : Result Rational NoFit = Ok c.in-Ok.v in
    let e : summed ≡ sum_answer c.args.x.now zero_ℚ r.entries = search rules in
    let i : c.lies_inside.result ≡ lies_inside c.args.side r.lower r.upper c.in-Ok.v = search rules in
    λ t. row_met c.args.side r.lower r.upper c.args.x.now r.entries c.in-Ok.v e (sym i ∙ t)
