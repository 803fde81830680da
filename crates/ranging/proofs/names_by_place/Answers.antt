use Rattle.ranging.proofs.PlaceNames.{column_names_differ, row_names_differ, named_feasible, unnamed_feasible}
use Rattle.ranging.proofs.names_by_place.Goals as goal

pub returns : goal.returns
returns c = record { columns = column_names_differ; rows = row_names_differ; points = λ p x. (unnamed_feasible p x, named_feasible p x) }
