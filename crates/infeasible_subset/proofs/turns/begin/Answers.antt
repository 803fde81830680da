use Rattle.std.proofs.Common.{◌∙◌, sym, ap, subst}
use Rattle.infeasible_subset.specs.Members.{both}
use Rattle.infeasible_subset.specs.Underway.{IsUnderway}
use Rattle.infeasible_subset.proofs.OneByOne.{used, begun}
use Rattle.infeasible_subset.proofs.turns.begin.Goals as goal

pub returns : goal.returns
returns c =
    let p = c.args.problem.now in
    let w = c.args.weights in
    let left = c.in_ok-left.left in
    subst (λ done. IsUnderway p done left w) (sym c.new.ensures) (begun p w left c.requires (c.in_ok-left.ensures ∙ ap (λ ms. both ms (used w)) (c.deref.ensures.value ∙ c.in_ok-all.ensures)))
