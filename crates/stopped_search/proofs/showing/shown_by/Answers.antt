use Rattle.std.proofs.Common.{◌≡◌}
use Rattle.partial_certificate.specs.Columns.{IsBySplitsOfColumns}
use Rattle.partial_certificate.specs.Shown.{Passes}
use Rattle.stopped_search.specs.Stopped.{shown_for}
use Rattle.stopped_search.proofs.Results.{some_of}
use Rattle.stopped_search.proofs.showing.shown_by.Goals as goal

pub returns-clause-shown : goal.returns-clause-shown
returns-clause-shown c = some_of c.boxed.result c.ok.result (λ k. k ≡ shown_for c.args.wanted c.args.board.now) c.ok.ensures.value c.boxed.ensures.shown

pub returns-clause-passes : goal.returns-clause-passes
returns-clause-passes c = λ p e cuts. some_of c.boxed.result c.ok.result (Passes p) c.ok.ensures.value (c.boxed.ensures.passes p e cuts)

pub returns-clause-columns : goal.returns-clause-columns
returns-clause-columns c = λ cuts. some_of c.boxed.result c.ok.result IsBySplitsOfColumns c.ok.ensures.value (c.boxed.ensures.columns cuts)
