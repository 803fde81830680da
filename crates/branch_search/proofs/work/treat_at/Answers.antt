use Rattle.std.proofs.Common.{ℕ, Option, IfSome, subst}
use Rattle.search_node.specs.Sides.{sides_of}
use Rattle.branch_search.specs.Treatment.{IsTreatment}
use Rattle.branch_search.specs.declared.treatment.Treatment.{Treatment}
use Rattle.branch_search.proofs.work.treat_at.Goals as goal

pub returns-in-Some : goal.returns-in-Some
returns-in-Some c =
    let P : Option Treatment → Type 0 = λ o. IfSome o (λ t. (limit : ℕ) → IsTreatment c.args.problem.now c.args.cuts.now limit (sides_of c.args.node.now.splits) c.args.best.now t) in
    subst P c.in-Some.is c.in_ok-treatment.ensures c.args.pivot_limit
