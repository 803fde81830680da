-- One row more.
use Rattle.std.proofs.Common.{◌≡◌, ◌∙◌, sym, rules}
use Rattle.milp.specs.Form.{sum_at}
use Rattle.std.specs.Prelude.{slice_get}
use Rattle.instance.specs.Sums.{form_of}
use Rattle.gmpl_generate.specs.Solved.{with_solved_row, with_rows}
use Rattle.gmpl_generate.proofs.SolvedRows.{at_row_of, all_gone, next_row}
use Rattle.gmpl_generate.proofs.solved.add_rows.Goals as goal

pub row_value-value-requires-clause-fits : goal.row_value-value-requires-clause-fits
row_value-value-requires-clause-fits c =
    (at_row_of c.args.point.now c.args.problem.now.rows c.rows-rows.result.now c.loop-i.i c.index-rows-i.result c.rows-rows.ensures c.loop-i-test.true c.index-rows-i.is c.loop-i.invariant.fit).fits

pub loop-i-preserved : goal.loop-i-preserved
loop-i-preserved c =
    let x = c.args.point.now in
    let rows = c.args.problem.now.rows in
    let i = c.loop-i.i in
    let at = at_row_of x rows c.rows-rows.result.now i c.index-rows-i.result c.rows-rows.ensures c.loop-i-test.true c.index-rows-i.is c.loop-i.invariant.fit in
    let more : c.add_row.new.solution ≡ with_solved_row c.in-Some.member.now c.index-rows-i.result (sum_at x (form_of (slice_get rows i))) c.in-Some-split_first.dual.now c.loop-i.solution = search rules in
    record {
      solution = sym (next_row x rows i c.index-rows-i.result c.in-Some.member.now c.in-Some.rest.now c.loop-i.left.now c.in-Some-split_first.dual.now c.in-Some-split_first.duals_rest.now c.loop-i.duals_left.now c.loop-i.solution c.add_row.new.solution (with_rows x c.args.members.now rows c.args.duals.now c.args.solution.now) at (search rules) (search rules) (sym c.loop-i.invariant.solution) more);
      fit = at.left;
    }

pub returns : goal.returns
returns c = sym (c.loop-i.invariant.solution ∙ all_gone c.args.point.now c.loop-i.left.now c.args.problem.now.rows c.rows-rows.result.now c.loop-i.i c.loop-i.duals_left.now c.loop-i.solution c.rows-rows.ensures c.loop-i-test.false)
