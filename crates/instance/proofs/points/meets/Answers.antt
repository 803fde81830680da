use Rattle.std.proofs.Common.{◌≡◌, rules, Ok, false, Result, Bool}
use Rattle.fraction.specs.declared.frac.NoFit.{NoFit}
use Rattle.instance.specs.Sums.{meets_answer}
use Rattle.instance.proofs.Meeting.{meets_ok}
use Rattle.instance.proofs.points.meets.Goals as goal

pub returns-then-not-meets_columns-clause-feasible : goal.returns-then-not-meets_columns-clause-feasible
returns-then-not-meets_columns-clause-feasible c =
    let p = c.args.instance.now in
    let x = c.args.point.now in
    let r : Result Bool NoFit = Ok false in
    let e : r ≡ meets_answer p x = search rules in
    meets_ok p x r e

pub returns-clause-feasible : goal.returns-clause-feasible
returns-clause-feasible c =
    let p = c.args.instance.now in
    let x = c.args.point.now in
    let e : c.meets_rows.result ≡ meets_answer p x = search rules in
    meets_ok p x c.meets_rows.result e
