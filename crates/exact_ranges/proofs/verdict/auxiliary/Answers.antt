use Rattle.exact_ranges.specs.Sought.{wanted_by}
use Rattle.exact_ranges.specs.Parts.{problem_of}
use Rattle.exact_ranges.proofs.Naming.{named_too_large}
use Rattle.exact_ranges.proofs.verdict.auxiliary.Goals as goal

pub returns-in-Err-TooMany-clause-fault : goal.returns-in-Err-TooMany-clause-fault
returns-in-Err-TooMany-clause-fault c =
    let cs = c.args.columns.now in
    let rs = c.args.rows.now in
    λ p x w a. (problem_of cs rs (wanted_by c.args.sought.now) c.args.column, a, named_too_large cs rs (c.in-Err-TooMany.ensures.too_large c.in-Err-TooMany.field-0-is))
