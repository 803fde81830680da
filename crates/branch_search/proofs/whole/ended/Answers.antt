use Rattle.std.proofs.Common.{◌≡◌, ◌∙◌, sym}
use Rattle.search_tree.specs.Finished.{certificate_of}
use Rattle.verdicts.specs.Certificate.{Certificate}
use Rattle.branch_search.proofs.ColumnSplits.{board_splits}
use Rattle.branch_search.proofs.PlainEnds.{plain_board}
use Rattle.branch_search.proofs.Standing.{value_of_ok}
use Rattle.branch_search.proofs.whole.ended.Goals as goal

pub returns-in-Some-clause-plain : goal.returns-in-Some-clause-plain
returns-in-Some-clause-plain c = λ none.
    let b = c.args.board in
    let P : Certificate → Type 0 = λ d. d ≡ certificate_of b in
    plain_board b c.in-Some.certificate c.keeps_its_log.ensures.kept (c.is_finished.ensures.yes c.if-not-is_finished.false) c.requires.cuts
    (value_of_ok c.into_certificate.result c.in-Some.certificate P (sym c.ok.ensures.value ∙ c.in-Some.is) c.into_certificate.ensures.ok) none

pub returns-in-Some-clause-splits : goal.returns-in-Some-clause-splits
returns-in-Some-clause-splits c =
    let b = c.args.board in
    let P : Certificate → Type 0 = λ d. d ≡ certificate_of b in
    board_splits b c.in-Some.certificate c.keeps_its_log.ensures.kept c.requires.cuts
    (value_of_ok c.into_certificate.result c.in-Some.certificate P (sym c.ok.ensures.value ∙ c.in-Some.is) c.into_certificate.ensures.ok)
