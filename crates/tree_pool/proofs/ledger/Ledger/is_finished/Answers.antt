use Rattle.std.proofs.Common.{◌≡◌, ◌∙◌, sym, ap, subst}
use Rattle.tree_pool.specs.LogNodes.{nodes_in}
use Rattle.tree_pool.specs.Grown.{tree_after}
use Rattle.tree_pool.specs.Ledger.{Ledger, are_closed}
use Rattle.tree_pool.specs.Places.{AreClosed}
use Rattle.tree_pool.proofs.ClosedTrees.{nodes_closed, closed_nodes_are}
use Rattle.tree_pool.proofs.ledger.Ledger.is_finished.Goals as goal

pub returns-clause-yes : goal.returns-clause-yes
returns-clause-yes c = λ e.
    let log = c.self.inside.log.items in
    let refs = c.self.inside.nodes.items in
    let is : c.are_closed.result ≡ are_closed (nodes_in log refs) = c.are_closed.ensures ∙ ap (λ l. are_closed (nodes_in l c.deref-2.result.now)) c.deref.ensures.value ∙ ap (λ rs. are_closed (nodes_in log rs)) c.deref-2.ensures.value in
    let P : Ledger → Type 0 = λ l. AreClosed l.tree in
    subst P c.self.view_is (nodes_closed log (tree_after log) c.self.inside.paths.all refs c.self.invariant.0 (sym is ∙ e))

pub returns-clause-no : goal.returns-clause-no
returns-clause-no c = λ e.
    let log = c.self.inside.log.items in
    let refs = c.self.inside.nodes.items in
    let is : c.are_closed.result ≡ are_closed (nodes_in log refs) = c.are_closed.ensures ∙ ap (λ l. are_closed (nodes_in l c.deref-2.result.now)) c.deref.ensures.value ∙ ap (λ rs. are_closed (nodes_in log rs)) c.deref-2.ensures.value in
    let P : Ledger → Type 0 = λ l. ¬ (AreClosed l.tree) in
    subst P c.self.view_is (closed_nodes_are log (tree_after log) c.self.inside.paths.all refs c.self.invariant.0 (sym is ∙ e))
