use Rattle.std.proofs.Common.{◌≡◌, ◌∙◌, get_or, option_and_then, Option, Some, IfSome, slice_get, sym, ap, subst}
use Rattle.milp.specs.Problem.{Row}
use Rattle.ranging.specs.BoundRanges.{bound_of}
use Rattle.exact_ranges.specs.Sought.{side_of}
use Rattle.exact_ranges.specs.ShownBest.{best_point, best_weights}
use Rattle.exact_ranges.specs.Ranges.{IsBoundRange}
use Rattle.exact_ranges.proofs.Results.{ok_gives}
use Rattle.exact_ranges.proofs.Lists.{element_at}
use Rattle.exact_ranges.proofs.bounds.range_on.Goals as goal

pub side_range-requires-clause-bound : goal.side_range-requires-clause-bound
side_range-requires-clause-bound c =
    let rows = c.args.problem.now.rows in
    let r = c.index-rows-row.result in
    let found : slice_get rows c.args.row ≡ Some r = element_at rows c.args.row r c.requires.row (c.index-rows-row.is ∙ ap (λ rs. get_or rs c.args.row r) c.rows-rows.ensures) in
    ap (option_and_then (bound_of (side_of c.args.side))) found ∙ sym c.bound_on-bound.ensures

pub returns-clause-range : goal.returns-clause-range
returns-clause-range c =
    let p = c.args.problem.now in
    let x = best_point c.args.certificate.now in
    let w = best_weights c.args.certificate.now in
    let i = c.args.row in
    let s = side_of c.args.side in
    let r = c.index-rows-row.result in
    let found : slice_get p.rows i ≡ Some r = element_at p.rows i r c.requires.row (c.index-rows-row.is ∙ ap (λ rs. get_or rs i r) c.rows-rows.ensures) in
    ok_gives c.side_range.result (IsBoundRange p x w i s c.bound_on-bound.result) (λ made. IfSome (slice_get p.rows i) (λ (row : Row). IsBoundRange p x w i s (bound_of s row) made))
    (λ made h. subst (λ (o : Option Row). IfSome o (λ (row : Row). IsBoundRange p x w i s (bound_of s row) made)) (sym found) (subst (λ b. IsBoundRange p x w i s b made) c.bound_on-bound.ensures h))
    c.side_range.ensures.range
