use Rattle.std.proofs.Common.{◌≡◌, rules}
use Rattle.instance.specs.Sums.{value_answer}
use Rattle.instance.proofs.Sums.{value_ok}
use Rattle.instance.proofs.points.value.Goals as goal

pub returns-clause-is_value : goal.returns-clause-is_value
returns-clause-is_value c =
    let p = c.args.instance.now in
    let x = c.args.point.now in
    let e : c.add.result ≡ value_answer p x = search rules in
    value_ok p x c.add.result e
