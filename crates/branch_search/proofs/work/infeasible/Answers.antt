use Rattle.std.proofs.Common.{◌∙◌, ap, sym, None, Ok}
use Rattle.search_node.specs.Sides.{sides_of}
use Rattle.search_tree.specs.Work.{IsWorkFault}
use Rattle.branch_search.proofs.Treating.{refuted, at_node, passes_at}
use Rattle.branch_search.proofs.work.infeasible.Goals as goal

pub unreachable-requires : goal.unreachable-requires
unreachable-requires c =
    let p = c.args.problem.now in
    let ds = c.args.cuts.now in
    let sides = sides_of c.args.node.now.splits in
    refuted c.named_leaves.ensures.empty p ds sides c.args.weights.now c.requires.columns c.requires.infeasible
    (sym (at_node p ds c.args.path.now sides c.args.weights.now c.in_ok-named.named c.shows_no_point.result c.requires.path c.in_ok-named.ensures c.shows_no_point.ensures) ∙ c.in-Ok-false.is ∙ ap Ok c.in-Ok-false.field-0-test)

pub returns-in-Err : goal.returns-in-Err
returns-in-Err c =
    let p = c.args.problem.now in
    let ds = c.args.cuts.now in
    let sides = sides_of c.args.node.now.splits in
    IsWorkFault.in_empty c.args.weights.now None c.requires.infeasible
    (sym (at_node p ds c.args.path.now sides c.args.weights.now c.in_ok-named.named c.shows_no_point.result c.requires.path c.in_ok-named.ensures c.shows_no_point.ensures) ∙ c.in-Err.is)

pub returns-in-Ok-true : goal.returns-in-Ok-true
returns-in-Ok-true c =
    passes_at c.args.problem.now c.args.cuts.now c.args.path.now (sides_of c.args.node.now.splits) c.args.best.now c.in_ok-named.named c.shows_no_point.result c.requires.path c.shows_no_point.ensures (c.in-Ok-true.is ∙ ap Ok c.in-Ok-true.field-0-test)
