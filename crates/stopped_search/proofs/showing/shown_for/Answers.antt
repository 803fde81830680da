use Rattle.std.proofs.Common.{◌≡◌, ◌∙◌, ap}
use Rattle.partial_certificate.specs.Columns.{IsBySplitsOfColumns}
use Rattle.partial_certificate.specs.Shown.{Passes}
use Rattle.branch_search.specs.WholeFaults.{searched}
use Rattle.stopped_search.specs.Stopped.{without_best}
use Rattle.stopped_search.proofs.Results.{if_ok}
use Rattle.stopped_search.proofs.ShownParts.{best_passes, best_columns, any_passes, any_columns}
use Rattle.stopped_search.proofs.showing.shown_for.Goals as goal

pub returns-in-Best-clause-passes : goal.returns-in-Best-clause-passes
returns-in-Best-clause-passes c = λ p e cuts.
    let b = c.args.board.now in
    let k = c.in_ok-shown.shown in
    best_passes b k c.in_ok-shown.ensures.same p (c.accepted_partials_show.ensures.passes b.problem k c.in_ok-shown.ensures.accepted) (e ∙ ap (searched p) c.in-Best.is)

pub returns-in-Best-clause-columns : goal.returns-in-Best-clause-columns
returns-in-Best-clause-columns c = λ cuts. best_columns c.args.board.now c.in_ok-shown.shown c.in_ok-shown.ensures.same c.in_ok-shown.ensures.splits cuts

pub returns-in-Any-clause-passes : goal.returns-in-Any-clause-passes
returns-in-Any-clause-passes c = λ p e cuts.
    let b = c.args.board.now in
    let k = c.in_ok-shown.shown in
    let h = c.accepted_partials_show.ensures.passes b.problem k c.in_ok-shown.ensures.accepted in
    if_ok c.without_best.result (λ made. made ≡ without_best k) (Passes p) (λ made same. any_passes b k c.in_ok-shown.ensures.same p made same h (e ∙ ap (searched p) c.in-Any.is) cuts) c.without_best.ensures

pub returns-in-Any-clause-columns : goal.returns-in-Any-clause-columns
returns-in-Any-clause-columns c = λ cuts.
    let k = c.in_ok-shown.shown in
    if_ok c.without_best.result (λ made. made ≡ without_best k) IsBySplitsOfColumns (λ made same. any_columns c.args.board.now k c.in_ok-shown.ensures.same made same c.in_ok-shown.ensures.splits cuts) c.without_best.ensures
