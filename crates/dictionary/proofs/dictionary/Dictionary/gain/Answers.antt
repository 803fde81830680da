use Rattle.std.proofs.Common.{rules}
use Rattle.dictionary.proofs.TableForms.{gain_from}
use Rattle.dictionary.proofs.dictionary.Dictionary.gain.Goals as goal

pub returns : goal.returns
returns c = gain_from c.args.self.now c.args.q _ _ c.position.result c.requires c.at.ensures (search rules) (search rules)
