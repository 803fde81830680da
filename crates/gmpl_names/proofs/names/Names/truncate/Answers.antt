-- By the names of the keys.
use Rattle.std.proofs.Common.{string_bytes}
use Rattle.std.proofs.lemmas.List.{take-map}
use Rattle.gmpl_names.proofs.names.Names.truncate.Goals as goal

pub returns : goal.returns
returns c = let t = take-map string_bytes c.args.len c.self.inside.names.keys in let k = c.truncate.ensures.keys in cc
