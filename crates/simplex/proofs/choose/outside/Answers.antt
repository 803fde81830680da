use Rattle.std.proofs.Common.{rules}
use Rattle.milp.specs.Form.{number_at}
use Rattle.dictionary.proofs.Laws.{read_number}
use Rattle.simplex.proofs.Choices.{outside_some}
use Rattle.simplex.proofs.choose.outside.Goals as goal

pub returns-clause-some : goal.returns-clause-some
returns-clause-some c = outside_some c.args.system.now c.args.dictionary.now.places (number_at c.args.values.now) c.args.v c.bounds.result c.index-values-v.result c.passed.result c.bounds.ensures
    (read_number c.args.values.now c.args.v c.index-values-v.result (search rules) c.index-values-v.is) (search rules) c.passed.ensures
