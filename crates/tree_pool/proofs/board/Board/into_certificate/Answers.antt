use Rattle.std.proofs.Common.{◌≡◌, sym, subst}
use Rattle.verdicts.specs.Certificate.{Certificate}
use Rattle.cert_check.specs.Outcome.{Acceptance, outcome, trials}
use Rattle.search_tree.specs.Finished.{certificate_of}
use Rattle.search_tree.proofs.Laws.{finished_accepted}
use Rattle.tree_pool.proofs.Results.{if_ok}
use Rattle.tree_pool.proofs.board.Board.into_certificate.Goals as goal

pub returns-clause-accepted : goal.returns-clause-accepted
returns-clause-accepted c =
    let P : Certificate → Type 0 = λ k. outcome (trials c.args.self.problem k) ≡ Acceptance in
    if_ok c.certified.result (λ k. k ≡ certificate_of c.args.self) P (λ k e. subst P (sym e) (finished_accepted c.args.self c.keeps_its_log.ensures.kept c.requires)) c.certified.ensures.ok
