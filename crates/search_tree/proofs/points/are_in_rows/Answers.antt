use Rattle.std.proofs.Common.{◌≡◌, ◌∙◌, ap, arith}
use Rattle.milp.specs.Form.{sum_at}
use Rattle.milp.specs.Points.{IsWithin}
use Rattle.search_tree.proofs.NodePoints.{same_within, one_more, all_hold}
use Rattle.search_tree.proofs.points.are_in_rows.Goals as goal

pub loop-i-preserved : goal.loop-i-preserved
loop-i-preserved c =
    let x = c.args.x.now in
    let row = c.index-rows-i.result in
    let value : c.in_ok-value.value ≡ sum_at x row.entries = c.in_ok-value.ensures.is_sum ∙ ap (sum_at x) (c.as_slice.ensures ∙ c.entries.ensures) in
    let new : IsWithin row.lower row.upper (sum_at x row.entries) = same_within c.lower.result row.lower c.upper.result row.upper c.in_ok-value.value (sum_at x row.entries) c.lower.ensures c.upper.ensures value (c.is_within.ensures.yes c.if-not-is_within.false) in
    record {
      at_most = omega (arith, c.loop-i-test.true);
      within = one_more (λ k row. IsWithin row.lower row.upper (sum_at x row.entries)) c.args.rows.now c.loop-i.i row c.loop-i-test.true c.index-rows-i.is new c.loop-i.invariant.within;
    }

pub returns-clause-yes : goal.returns-clause-yes
returns-clause-yes c = λ t. all_hold (λ k row. IsWithin row.lower row.upper (sum_at c.args.x.now row.entries)) c.args.rows.now c.loop-i.i (omega (arith, c.loop-i-test.false)) c.loop-i.invariant.within
