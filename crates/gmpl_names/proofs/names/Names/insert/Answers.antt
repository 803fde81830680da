-- By the names of the keys.
use Rattle.std.proofs.Common.{string_bytes, ◌∙◌, ap, not, map}
use Rattle.gmpl_names.proofs.Keys.{insert-key, has-key}
use Rattle.gmpl_names.proofs.names.Names.insert.Goals as goal

pub returns-clause-fresh : goal.returns-clause-fresh
returns-clause-fresh c = rw (← c.self.view_is) (c.in_ok-insert.ensures.added ∙ ap not (has-key string_bytes (string_bytes c.args.name) _))

pub returns-clause-added : goal.returns-clause-added
returns-clause-added c = rw (← c.self.view_is) (ap (map string_bytes) c.in_ok-insert.ensures.keys ∙ insert-key string_bytes _ c.args.name)
