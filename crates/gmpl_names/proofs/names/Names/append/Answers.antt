-- By the names of the keys.
use Rattle.std.proofs.Common.{◌∙◌, string_bytes, map, ap}
use Rattle.gmpl_names.proofs.Keys.{insert-keys, on_ok, same-with}
use Rattle.gmpl_names.proofs.names.Names.append.Goals as goal

pub returns : goal.returns
returns c = on_ok c.append.result (λ e. ap (map string_bytes) e ∙ insert-keys string_bytes c.self.inside.names.keys c.more.inside.names.keys ∙ same-with c.self.view_is c.more.view_is) c.append.ensures.keys
