use Rattle.std.proofs.Common.{[], None, subst}
use Rattle.branch_search.specs.Treatment.{IsEndless, IsTreatment}
use Rattle.infeasible_subset.proofs.Treated.{accepted, no_ray, root_fault}
use Rattle.infeasible_subset.proofs.trial.told.Goals as goal

pub unreachable-requires-in-Unbounded : goal.unreachable-requires-in-Unbounded
unreachable-requires-in-Unbounded c =
    let p = c.args.part.now in
    let e = c.in-Unbounded.field-0 in
    let endless : IsEndless p [] [] e = subst (IsTreatment p [] c.args.pivot_limit [] None) c.in-Unbounded.is c.requires.treatment in
    no_ray p e.ray c.requires.no_objective endless.ray

pub returns-in-Refuted : goal.returns-in-Refuted
returns-in-Refuted c =
    let p = c.args.part.now in
    accepted p c.in-Refuted.weights (subst (IsTreatment p [] c.args.pivot_limit [] None) c.in-Refuted.is c.requires.treatment)

pub returns-in-NotFitting : goal.returns-in-NotFitting
returns-in-NotFitting c =
    let p = c.args.part.now in
    root_fault p c.in-NotFitting.fault c.keeps_its_limits.ensures.well_formed (subst (IsTreatment p [] c.args.pivot_limit [] None) c.in-NotFitting.is c.requires.treatment)
