use Rattle.std.proofs.Common.{◌≡◌, ◌∙◌, ap, get_or, List, arith}
use Rattle.rational.specs.Rational.{Rational}
use Rattle.search_tree.proofs.CheckLaws.{number_is}
use Rattle.branch_search.proofs.Treating.{to_split}
use Rattle.branch_search.proofs.testing.fractional.Goals as goal

pub returns : goal.returns
returns c = λ limit.
    let x = c.args.found.point in
    let at : c.index-numbers-j.result ≡ get_or x c.args.j c.index-numbers-j.result = c.index-numbers-j.is ∙ ap (λ (xs : List Rational). get_or xs c.args.j c.index-numbers-j.result) c.as_slice-numbers.ensures in
    let number = number_is x c.args.j c.index-numbers-j.result (omega (arith, c.requires.column, c.requires.relaxed.point.relaxed.size)) at in
    to_split c.args.problem.now c.args.cuts.now c.args.path.now c.args.best.now x c.args.j _ c.floor.result c.index-numbers-j.result c.requires.relaxed c.requires.better c.requires.fraction c.requires.pinned c.new-split.ensures c.floor.ensures number
