use Rattle.std.proofs.Common.{◌≡◌, ◌∙◌, get_or, length, sym, ap}
use Rattle.ranging.specs.BoundAuxiliary.{moved_row, moved_at}
use Rattle.exact_ranges.specs.Sought.{side_of}
use Rattle.exact_ranges.proofs.Results.{ok_gives}
use Rattle.exact_ranges.proofs.BoundProblems.{moved_here}
use Rattle.exact_ranges.proofs.bound_rows.moved_at.Goals as goal

pub returns : goal.returns
returns c =
    let p = c.args.problem.now in
    let u = c.args.used.now in
    let row = c.index-rows-place.result in
    let is : row ≡ get_or p.rows u.row row = c.index-rows-place.is ∙ ap (λ rs. get_or rs u.row row) c.rows-rows.ensures in
    let here = moved_here (length p.columns) u.row (side_of u.side) u.bound p.rows row c.requires is in
    ok_gives c.moved_row.result (λ m. m ≡ moved_row (length c.columns.result.now) (side_of u.side) u.bound row) (λ m. m ≡ moved_at (length p.columns) u.row (side_of u.side) u.bound p.rows)
    (λ m e. e ∙ ap (λ k. moved_row k (side_of u.side) u.bound row) (ap length c.columns.ensures) ∙ sym here)
    c.moved_row.ensures
