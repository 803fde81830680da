use Rattle.std.proofs.Common.{◌∙◌, ap}
use Rattle.search_node.specs.declared.fault.Site.{Site}
use Rattle.search_node.specs.Sides.{sides_of}
use Rattle.branch_search.proofs.Treating.{holds, endless_of, infeasible, stuck_fault}
use Rattle.branch_search.proofs.work.relaxed.Goals as goal

pub infeasible-requires-clause-infeasible : goal.infeasible-requires-clause-infeasible
infeasible-requires-clause-infeasible c =
    let u = c.in-Ok-Infeasible in
    infeasible c.args.problem.now c.args.cuts.now (sides_of c.args.node.now.splits) u.field-0 u.weights u.field-0-is
    (holds c.args.problem.now c.args.cuts.now (sides_of c.args.node.now.splits) c.relax.result u.field-0 u.is c.relax.ensures.relaxed)

pub returns-in-Ok-Unbounded : goal.returns-in-Ok-Unbounded
returns-in-Ok-Unbounded c =
    let u = c.in-Ok-Unbounded in
    endless_of c.args.problem.now c.args.cuts.now (sides_of c.args.node.now.splits) u.field-0 u.endless c.requires.columns u.field-0-is
    (holds c.args.problem.now c.args.cuts.now (sides_of c.args.node.now.splits) c.relax.result u.field-0 u.is c.relax.ensures.relaxed)

pub returns-in-Err-NoFit : goal.returns-in-Err-NoFit
returns-in-Err-NoFit c =
    let u = c.in-Err-NoFit in
    stuck_fault c.args.problem.now c.args.cuts.now c.args.node.now c.args.pivot_limit c.relax.result u.field-0 u.site c.fault_at.result u.is u.field-0-is (c.fault_at.ensures ∙ ap (λ (s : Site). s.fault) u.site-is) c.relax.ensures.stuck
