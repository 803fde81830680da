use Rattle.std.proofs.Common.{subst, sym}
use Rattle.rational.specs.Rational.{Rational, ◌≤ℚ◌}
use Rattle.search_tree.proofs.NodePoints.{next_is}
use Rattle.search_tree.proofs.points.is_above_next.Goals as goal

pub returns-clause-yes : goal.returns-clause-yes
returns-clause-yes c = λ t.
    let P : Rational → Type 0 = λ b. b ≤ℚ c.args.value in
    subst P (next_is c.args.at c.to_frac.result c.one.result c.add.result c.in_ok-next.next c.to_frac.ensures c.one.ensures c.add.ensures c.in_ok-next.was) (c.is_at_most.ensures.yes t)

pub returns-clause-no : goal.returns-clause-no
returns-clause-no c = λ t below.
    let P : Rational → Type 0 = λ b. b ≤ℚ c.args.value in
    c.is_at_most.ensures.no t (subst P (sym (next_is c.args.at c.to_frac.result c.one.result c.add.result c.in_ok-next.next c.to_frac.ensures c.one.ensures c.add.ensures c.in_ok-next.was)) below)
