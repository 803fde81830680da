use Rattle.cut_search.proofs.RootCutsShown.{root_cuts_pass}
use Rattle.cut_search.proofs.restoring.root_cuts_are_shown.Goals as goal

pub returns : goal.returns
returns c =
    let p = c.args.problem.now in
    c.passing_cuts_are_shown.ensures.shown p c.args.cuts.now (λ before. root_cuts_pass p before (λ d is. c.root_cuts_pass.ensures p d before c.root_is_over_columns.ensures is) c.args.cuts.now c.requires)
