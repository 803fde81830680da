use Rattle.std.proofs.Common.{string_bytes, ◌∙◌}
use Rattle.gmpl_names.proofs.Keys.{place-of-key}
use Rattle.gmpl_names.proofs.names.Names.place.Goals as goal

pub returns : goal.returns
returns c = rw (← c.self.view_is) (c.get_index_of.ensures.index ∙ place-of-key string_bytes c.args.name.now _)
