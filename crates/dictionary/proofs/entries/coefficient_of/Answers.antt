use Rattle.dictionary.proofs.SparseRows.{behind_coefficient}
use Rattle.dictionary.proofs.entries.coefficient_of.Goals as goal

pub returns : goal.returns
returns c = behind_coefficient c.args.form.now c.first_from.result c.args.column c.first_coefficient.result c.first_from.ensures.before c.first_coefficient.ensures
