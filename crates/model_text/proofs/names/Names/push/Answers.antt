-- The set's keys with one more.
use Rattle.model_text.proofs.Laws.{keys-push}
use Rattle.model_text.proofs.names.Names.push.Goals as goal

pub returns-clause-added : goal.returns-clause-added
returns-clause-added c = keys-push _ _ _ c.args.name c.self.view_is c.requires.new c.in_ok-insert.ensures.keys
