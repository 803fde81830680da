use Rattle.std.proofs.Common.{◌≡◌, ◌∙◌, List, length, sym, ap, subst, is_some, Option, IfSome}
use Rattle.rational.specs.Rational.{Rational}
use Rattle.certificate.specs.Written.{is_tree}
use Rattle.search_tree.specs.Board.{Board}
use Rattle.search_tree.specs.Finished.{IsFinished}
use Rattle.search_tree.proofs.Laws.{finished_tree, replay_kept}
use Rattle.tree_pool.proofs.BestPoints.{best_known, best_size}
use Rattle.tree_pool.proofs.board.Board.certified.Goals as goal

pub certificate_with-requires-clause-tree : goal.certificate_with-requires-clause-tree
certificate_with-requires-clause-tree c =
    let inside = c.self.inside in
    let b : Board = record { problem = inside.problem; cuts = inside.cuts; split_limit = inside.split_limit; pivot_limit = inside.pivot_limit; tree = inside.ledger.tree; best = inside.ledger.best; log = inside.ledger.log } in
    ap is_tree c.in-Ok.ensures ∙ finished_tree b (subst IsFinished (sym c.self.view_is) c.requires)

pub certificate_with-requires-clause-size : goal.certificate_with-requires-clause-size
certificate_with-requires-clause-size c =
    let inside = c.self.inside in
    let b : Board = record { problem = inside.problem; cuts = inside.cuts; split_limit = inside.split_limit; pivot_limit = inside.pivot_limit; tree = inside.ledger.tree; best = inside.ledger.best; log = inside.ledger.log } in
    let P : Option (List Rational) → Type 0 = λ o. IfSome o (λ x. length x ≡ c.columns-columns.result) in
    subst P (sym c.in-Ok-best_copy.ensures) (best_size inside.problem inside.ledger.best c.columns-columns.result (c.columns-columns.ensures ∙ ap (λ d. length d.problem.columns) (sym c.self.view_is)) (replay_kept b c.self.invariant.3).best)

pub certificate_with-requires-clause-value : goal.certificate_with-requires-clause-value
certificate_with-requires-clause-value c =
    let inside = c.self.inside in
    let b : Board = record { problem = inside.problem; cuts = inside.cuts; split_limit = inside.split_limit; pivot_limit = inside.pivot_limit; tree = inside.ledger.tree; best = inside.ledger.best; log = inside.ledger.log } in
    best_known inside.problem inside.ledger.best inside.best_value c.self.invariant.2 ∙ ap is_some (sym c.in-Ok-best_copy.ensures)
