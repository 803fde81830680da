use Rattle.std.proofs.Common.{◌≡◌, Some, rules}
use Rattle.cert_check.specs.Lookup.{entry_at}
use Rattle.cert_check.proofs.Negatives.{negative_found}
use Rattle.cert_check.proofs.sums.with_negative_coefficient.Goals as goal

pub returns-in-Some : goal.returns-in-Some
returns-in-Some c =
    let found : entry_at c.args.form.now c.args.column ≡ Some c.in-Some.coefficient = search rules in
    let one = negative_found c.args.weight c.args.form.now c.args.column c.in-Some.coefficient c.requires found in
    rw one (search rules)
