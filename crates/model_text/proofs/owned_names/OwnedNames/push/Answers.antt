-- The set's keys with one more.
use Rattle.std.proofs.Common.{string_bytes}
use Rattle.model_text.proofs.Laws.{keyed-push, bytes_eq-sym}
use Rattle.model_text.proofs.owned_names.OwnedNames.push.Goals as goal

pub returns-clause-added : goal.returns-clause-added
returns-clause-added c = keyed-push string_bytes _ _ _ _ c.args.name (λ k. bytes_eq-sym (string_bytes c.args.name) (string_bytes k)) c.self.view_is c.requires.new c.in_ok-insert.ensures.keys
