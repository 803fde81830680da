-- By the names of the keys.
use Rattle.std.proofs.Common.{◌∙◌, string_bytes}
use Rattle.gmpl_names.proofs.Keys.{has-key}
use Rattle.gmpl_names.proofs.names.Names.has.Goals as goal

pub returns : goal.returns
returns c = rw (← c.self.view_is) (c.contains.ensures ∙ has-key string_bytes c.args.name.now _)
