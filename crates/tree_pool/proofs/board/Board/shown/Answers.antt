use Rattle.std.proofs.Common.{◌≡◌, [], sym, subst}
use Rattle.std.specs.List.{AllByRecursion}
use Rattle.cert_check.specs.Outcome.{Acceptance, outcome}
use Rattle.partial_certificate.specs.Partial.{Partial}
use Rattle.partial_certificate.specs.Columns.{IsOfColumns}
use Rattle.partial_certificate.specs.Outcome.{trials}
use Rattle.tree_pool.specs.Shown.{shown_of}
use Rattle.tree_pool.proofs.Results.{if_ok}
use Rattle.tree_pool.proofs.ShownTrees.{of_columns}
use Rattle.tree_pool.proofs.ShownBoards.{shown_accepted}
use Rattle.tree_pool.proofs.board.Board.shown.Goals as goal

pub returns-clause-splits : goal.returns-clause-splits
returns-clause-splits c =
    let b = c.args.self.now in
    let P : Partial → Type 0 = λ k. AllByRecursion IsOfColumns k.tree in
    if_ok c.shown_parts.result (λ k. k ≡ shown_of b) P (λ k e. subst P (sym e) (of_columns b.problem b.cuts b.tree [] c.keeps_its_log.ensures.kept.splits)) c.shown_parts.ensures

pub returns-clause-accepted : goal.returns-clause-accepted
returns-clause-accepted c =
    let b = c.args.self.now in
    let P : Partial → Type 0 = λ k. outcome (trials b.problem k) ≡ Acceptance in
    if_ok c.shown_parts.result (λ k. k ≡ shown_of b) P (λ k e. subst P (sym e) (shown_accepted b c.keeps_its_log.ensures.kept)) c.shown_parts.ensures
