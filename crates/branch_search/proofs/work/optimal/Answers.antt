use Rattle.std.proofs.Common.{List, sym, subst, true}
use Rattle.verdicts.specs.Certificate.{Side}
use Rattle.basis.specs.Node.{IsOverColumns, IsNodePoint}
use Rattle.basis.proofs.Laws.{optimal_point}
use Rattle.dictionary.specs.Table.{dictionary_of}
use Rattle.search_node.specs.Sides.{sides_of}
use Rattle.branch_search.specs.Tests.{AllPinned}
use Rattle.branch_search.proofs.Treating.{passed_at, never_failed, fault_at}
use Rattle.branch_search.proofs.work.optimal.Goals as goal

pub test_optimum-requires-clause-point : goal.test_optimum-requires-clause-point
test_optimum-requires-clause-point c =
    let f = c.args.found in
    let P : List Side → Type 0 = λ sides. IsNodePoint c.args.problem.now c.args.cuts.now sides f.point in
    subst P (sym c.requires.path) (optimal_point c.args.problem.now c.args.cuts.now (sides_of c.args.node.now.splits) f.point f.weights f.dictionary.places (dictionary_of f.dictionary) c.requires.columns c.requires.optimal)

pub test_optimum-requires-clause-over : goal.test_optimum-requires-clause-over
test_optimum-requires-clause-over c =
    let P : List Side → Type 0 = λ sides. IsOverColumns c.args.problem.now c.args.cuts.now sides in
    subst P (sym c.requires.path) c.requires.columns

pub test_optimum-requires-clause-basic : goal.test_optimum-requires-clause-basic
test_optimum-requires-clause-basic c = λ basic.
    let f = c.args.found in
    let P : List Side → Type 0 = λ sides. AllPinned c.args.problem.now c.args.cuts.now sides f.point in
    subst P (sym c.requires.path) (c.optimal_points.ensures.pinned c.args.problem.now c.args.cuts.now (sides_of c.args.node.now.splits) f.point f.weights f.dictionary.places (dictionary_of f.dictionary) c.requires.columns c.requires.optimal)

pub returns-in-Passed : goal.returns-in-Passed
returns-in-Passed c =
    let f = c.args.found in
    passed_at c.args.problem.now c.args.cuts.now c.args.path.now (sides_of c.args.node.now.splits) c.args.best.now f.point f.weights true c.in_ok-treatment.field-0 c.in-Passed.treatment c.requires.path c.in-Passed.is c.in_ok-treatment.ensures c.args.pivot_limit

pub unreachable-requires : goal.unreachable-requires
unreachable-requires c =
    let f = c.args.found in
    never_failed c.named_leaves.ensures.bound c.args.problem.now c.args.cuts.now c.args.path.now (sides_of c.args.node.now.splits) c.args.best.now f.point f.weights f.dictionary.places (dictionary_of f.dictionary) true c.in_ok-treatment.field-0 c.requires.path c.in-Failed.is c.in_ok-treatment.ensures c.requires.columns c.requires.optimal

pub returns : goal.returns
returns c =
    let f = c.args.found in
    fault_at c.args.problem.now c.args.cuts.now c.args.path.now (sides_of c.args.node.now.splits) c.args.best.now f.point f.weights f.dictionary.places (dictionary_of f.dictionary) true c.in_ok-treatment.field-0 c.in-NoFit.fault c.requires.path c.in-NoFit.is c.in_ok-treatment.ensures c.requires.optimal
