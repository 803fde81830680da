-- The column that is begun is there.
use Rattle.std.proofs.Common.{[], ◌∷◌, arith}
use Rattle.std.proofs.lemmas.List.{length-append}
use Rattle.model_text.specs.Columns.{new_column}
use Rattle.mps_draft.proofs.Current.{last-there}
use Rattle.mps_draft.proofs.Kept.{columns-keep}
use Rattle.mps_draft.proofs.draft.Draft.begin_column.Goals as goal

pub invariant_of-self-2 : goal.invariant_of-self-2
invariant_of-self-2 c = (rw (c.in_ok-push.ensures.added, c.new.ensures) (columns-keep c.self.invariant.0 _ (omega (arith, length-append c.self.inside.columns (new_column c.args.name.now c.self.inside.in_integers ∷ [])))), rw (c.in_ok-push.ensures.added, c.new.ensures) (last-there c.args.name.now c.self.inside.in_integers c.self.inside.columns))
