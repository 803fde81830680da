-- By the names' bytes.
use Rattle.std.proofs.Common.{◌∙◌, string_bytes}
use Rattle.model_text.specs.Names.{is_name}
use Rattle.model_text.proofs.Laws.{bytes_eq-sym, list_any-same}
use Rattle.model_text.proofs.owned_names.OwnedNames.has.Goals as goal

pub returns : goal.returns
returns c = rw (← c.self.view_is) (c.contains.ensures ∙ list_any-same string_bytes _ (is_name c.args.name.now) (λ k. bytes_eq-sym c.args.name.now (string_bytes k)) _)
