use Rattle.dictionary.proofs.SparseRows.{number_read}
use Rattle.dictionary.proofs.row.Row.at.Goals as goal

pub returns : goal.returns
returns c = number_read c.self.inside.width c.self.inside.entries.items c.deref.result.now c.args.self.now c.coefficient_of.result c.self.invariant.1 c.self.view_is c.deref.ensures.value c.args.place c.coefficient_of.ensures
