use Rattle.partial_certificate.specs.Columns.{IsBySplitsOfColumns}
use Rattle.partial_certificate.specs.Shown.{Passes}
use Rattle.stopped_search.proofs.Results.{made_so}
use Rattle.stopped_search.proofs.showing.boxed.Goals as goal

pub returns-clause-passes : goal.returns-clause-passes
returns-clause-passes c = λ p e cuts. made_so c.new.result c.in_ok-shown.shown (Passes p) c.new.ensures (c.in_ok-shown.ensures.passes p e cuts)

pub returns-clause-columns : goal.returns-clause-columns
returns-clause-columns c = λ cuts. made_so c.new.result c.in_ok-shown.shown IsBySplitsOfColumns c.new.ensures (c.in_ok-shown.ensures.columns cuts)
