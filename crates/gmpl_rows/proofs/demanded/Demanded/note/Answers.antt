-- How many entries and columns there are more.
use Rattle.std.proofs.Common.{◌≡◌, ◌+◌, ap, sym, ◌∙◌, arith, get_or}
use Rattle.gmpl_rows.specs.MemberColumn.{one_if, is_used, no_column}
use Rattle.gmpl_rows.proofs.Counts.{demanded-more, given-more}
use Rattle.gmpl_rows.proofs.demanded.Demanded.note.Goals as goal
use Rattle.gmpl_rows.proofs.demanded.Demanded.note.Goals.{then-is_used, else-is_used}

pub returns-then-is_zero-clause-counts : goal.returns-then-is_zero-clause-counts
returns-then-is_zero-clause-counts c = demanded-more c.args.self.now c.demand.new.self c.args.term.variable.subscripts c.args.term.bounds c.in_ok-place.ensures.ok

pub returns-clause-counts : goal.returns-clause-counts
returns-clause-counts c =
    let place = c.in_ok-place.place in
    let count : c.if-is_used.columns + one_if (is_used (get_or c.demand.new.self.columns place no_column)) ≡ 1 = elim c.if-is_used.branch [
      | then-is_used w ↦ omega (arith, w.columns-is, ap one_if (sym c.is_used.ensures ∙ w.if-is_used.true))
      | else-is_used w ↦ omega (arith, w.columns-is, ap one_if (sym c.is_used.ensures ∙ w.if-is_used.false))
    ] in
    given-more c.args.self.now c.demand.new.self c.give.new.self c.args.term.variable.subscripts c.args.term.bounds place _ c.if-is_used.columns c.in_ok-place.ensures.ok c.in_ok-give.ensures.ok c.in_ok-place.ensures.within count
