use Rattle.std.proofs.Common.{ap, ◌∙◌}
use Rattle.search_node.specs.Bases.{next_bases, bases_of}
use Rattle.search_node.proofs.BasesLemmas.{one_more_basis}
use Rattle.search_node.proofs.bases.Bases.exchange.Goals as goal

pub returns-clause-ok : goal.returns-clause-ok
returns-clause-ok c =
    ap (bases_of c.self.inside.start.items) c.in_ok-push.ensures.items
    ∙ one_more_basis c.self.inside.start.items c.self.inside.exchanges.items c.args.exchange
    ∙ ap (λ bases. next_bases bases c.args.exchange) c.self.view_is
