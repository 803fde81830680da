use Rattle.std.proofs.Common.{rules}
use Rattle.milp.specs.Form.{number_at}
use Rattle.dictionary.specs.Table.{dictionary_of}
use Rattle.dictionary.proofs.Laws.{read_number}
use Rattle.simplex.proofs.Choices.{mends_no}
use Rattle.simplex.proofs.choose.mends.Goals as goal

pub returns-clause-no : goal.returns-clause-no
returns-clause-no c = mends_no c.args.system.now c.args.dictionary.now.places (number_at c.args.values.now) (dictionary_of c.args.dictionary.now) c.args.r c.args.place c.args.q c.bounds.result c.index-values-q.result c.rate-rate.result c.mends_at.result
    c.bounds.ensures (read_number c.args.values.now c.args.q c.index-values-q.result (search rules) c.index-values-q.is) c.rate-rate.ensures c.mends_at.ensures
