-- The set's place of a name, by the names' bytes.
use Rattle.std.proofs.Common.{◌∙◌, ℕ, Bor, List}
use Rattle.std.specs.Str.{bytes_eq}
use Rattle.model_text.specs.Names.{is_name}
use Rattle.model_text.proofs.Laws.{bytes_eq-sym, position-same}
use Rattle.model_text.proofs.names.Names.place.Goals as goal

pub returns : goal.returns
returns c = rw (← c.self.view_is) (c.get_index_of.ensures.index ∙ position-same (λ k. k.now) (λ (k : Bor (List ℕ)). bytes_eq c.args.name.now k.now) (is_name c.args.name.now) (λ k. bytes_eq-sym c.args.name.now k.now) _)
