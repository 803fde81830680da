use Rattle.std.proofs.Common.{sym, subst}
use Rattle.partial_certificate.specs.Shown.{Passes}
use Rattle.stopped_search.proofs.Results.{made_so}
use Rattle.cut_search.proofs.restoring.restored_one.Goals as goal

pub returns-clause-shows : goal.returns-clause-shows
returns-clause-shows c =
    let p = c.args.problem.now in
    let passes = c.restored_partials_show.ensures.passes p c.args.cut_problem.now c.args.cuts.now c.args.shown.now c.requires.cut_problem c.requires.are_shown c.requires.derived c.requires.passes in
    made_so c.new.result c.in_ok-restored.restored (Passes p) c.new.ensures (subst (Passes p) (sym c.in_ok-restored.ensures) passes)
