use Rattle.std.proofs.Common.{◌≡◌, [], ap, sym, subst}
use Rattle.partial_certificate.specs.Partial.{Partial}
use Rattle.partial_certificate.specs.Shown.{Passes}
use Rattle.stopped_search.proofs.Results.{made_so}
use Rattle.row_splits.proofs.ByRows.{shown_size}
use Rattle.row_splits.proofs.restoring.restored_one.Goals as goal

pub restore_partial-requires-clause-size : goal.restore_partial-requires-clause-size
restore_partial-requires-clause-size c = shown_size c.args.problem.now c.args.extension.now.problem c.args.extension.now.forms c.args.shown.now c.requires.extended c.requires.passes

pub returns-clause-shows : goal.returns-clause-shows
returns-clause-shows c =
    let p = c.args.problem.now in
    let passes = c.restored_partials_show.ensures.passes p c.args.extension.now.problem c.args.extension.now.forms c.args.shown.now c.requires.extended c.requires.whole c.requires.columns c.requires.passes in
    made_so c.new.result c.in_ok-restored.restored (Passes p) c.new.ensures (subst (Passes p) (sym c.in_ok-restored.ensures) passes)

pub returns-clause-derived : goal.returns-clause-derived
returns-clause-derived c = made_so c.new.result c.in_ok-restored.restored (λ (k : Partial). k.derived ≡ []) c.new.ensures (ap (λ (k : Partial). k.derived) c.in_ok-restored.ensures)
