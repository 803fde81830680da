use Rattle.std.proofs.Common.{rules}
use Rattle.dictionary.proofs.TableForms.{rate_from}
use Rattle.dictionary.proofs.dictionary.Dictionary.rate.Goals as goal

pub returns : goal.returns
returns c = rate_from c.args.self.now c.args.q c.args.v _ _ c.position-line.result c.position-column.result c.requires.resting c.number.ensures (search rules) (search rules) (search rules)
