use Rattle.std.proofs.Common.{refl, subst}
use Rattle.search_node.specs.Sides.{sides_of}
use Rattle.search_tree.specs.declared.leaf.Leaf.TheVariants.{Refuted, Bounded}
use Rattle.branch_search.specs.Treatment.{IsTreatment}
use Rattle.branch_search.specs.declared.treatment.Treatment.{Treatment}
use Rattle.branch_search.proofs.Ends.{over_columns}
use Rattle.branch_search.proofs.Growth.{closed_as_before, found_closed}
use Rattle.branch_search.proofs.growing.decide.Goals as goal

pub treat-requires : goal.treat-requires
treat-requires c = record { columns = over_columns c.args.problem.now c.args.cuts.now (sides_of c.args.node.splits) c.requires.cuts c.root_is_over_columns.ensures c.requires.honest }

pub stuck-requires-clause-fault : goal.stuck-requires-clause-fault
stuck-requires-clause-fault c =
    let P : Treatment → Type 0 = IsTreatment c.args.problem.now c.args.cuts.now c.args.pivot_limit (sides_of c.args.node.splits) c.args.progress.now.best in
    subst P c.in-NotFitting.is c.in_ok-weights.ensures

pub returns-in-Refuted-clause-decided : goal.returns-in-Refuted-clause-decided
returns-in-Refuted-clause-decided c =
    let p = c.args.problem.now in
    let P : Treatment → Type 0 = IsTreatment p c.args.cuts.now c.args.pivot_limit (sides_of c.args.node.splits) c.args.progress.now.best in
    closed_as_before p c.args.cuts.now c.args.pivot_limit (sides_of c.args.node.splits) c.args.progress.now (Refuted c.in-Refuted.weights) (subst P c.in-Refuted.is c.in_ok-weights.ensures) tt

pub returns-in-Bounded-clause-decided : goal.returns-in-Bounded-clause-decided
returns-in-Bounded-clause-decided c =
    let p = c.args.problem.now in
    let P : Treatment → Type 0 = IsTreatment p c.args.cuts.now c.args.pivot_limit (sides_of c.args.node.splits) c.args.progress.now.best in
    closed_as_before p c.args.cuts.now c.args.pivot_limit (sides_of c.args.node.splits) c.args.progress.now (Bounded c.in-Bounded.weights) (subst P c.in-Bounded.is c.in_ok-weights.ensures) tt

pub returns-in-Feasible-clause-decided : goal.returns-in-Feasible-clause-decided
returns-in-Feasible-clause-decided c =
    let p = c.args.problem.now in
    let P : Treatment → Type 0 = IsTreatment p c.args.cuts.now c.args.pivot_limit (sides_of c.args.node.splits) c.args.progress.now.best in
    found_closed p c.args.cuts.now c.args.pivot_limit c.args.node c.args.progress.now c.keep.new.progress c.in-Feasible.found c.keep.result (subst P c.in-Feasible.is c.in_ok-weights.ensures) c.keep.ensures.leaf c.keep.ensures.progress

pub returns-in-ToSplit-clause-decided : goal.returns-in-ToSplit-clause-decided
returns-in-ToSplit-clause-decided c =
    let P : Treatment → Type 0 = IsTreatment c.args.problem.now c.args.cuts.now c.args.pivot_limit (sides_of c.args.node.splits) c.args.progress.now.best in
    (refl, refl, subst P c.in-ToSplit.is c.in_ok-weights.ensures)

pub returns-in-NotFitting-clause-fault : goal.returns-in-NotFitting-clause-fault
returns-in-NotFitting-clause-fault c = λ splits short. c.stuck.ensures splits c.args.pivot_limit (record { count = short; splits = c.requires.honest })
