use Rattle.std.proofs.Common.{[], subst}
use Rattle.search_tree.specs.Tree.{IsTodo, AllLeaves}
use Rattle.tree_pool.specs.declared.kind.Kind.TheVariants.{ToDo}
use Rattle.tree_pool.specs.Grown.{tree_after}
use Rattle.tree_pool.specs.Ledger.{Ledger}
use Rattle.tree_pool.proofs.KindLemmas.{none_in, none_todo}
use Rattle.tree_pool.proofs.ledger.Ledger.chosen.Goals as goal

pub returns-clause-none : goal.returns-clause-none
returns-clause-none c = λ e.
    let log = c.self.inside.log.items in
    let refs = c.self.inside.nodes.items in
    let none = none_in ToDo log c.deref.result.now refs c.deref-2.result.now c.deref.ensures.value c.deref-2.ensures.value (c.chosen.ensures.none e) in
    let P : Ledger → Type 0 = λ l. AllLeaves (λ sides leaf. ¬ (IsTodo leaf)) [] l.tree in
    subst P c.self.view_is (none_todo log (tree_after log) c.self.inside.paths.all refs c.self.invariant.0 none)
