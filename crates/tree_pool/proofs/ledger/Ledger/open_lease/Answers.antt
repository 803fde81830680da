use Rattle.std.proofs.Common.{◌≡◌, subst}
use Rattle.search_tree.specs.Tree.{leased_under}
use Rattle.tree_pool.specs.declared.kind.Kind.TheVariants.{LeasedUnder}
use Rattle.tree_pool.specs.Grown.{tree_after}
use Rattle.tree_pool.specs.Ledger.{Ledger}
use Rattle.tree_pool.proofs.KindLemmas.{none_in, none_under}
use Rattle.tree_pool.proofs.ledger.Ledger.open_lease.Goals as goal

pub returns-in-None-clause-none : goal.returns-in-None-clause-none
returns-in-None-clause-none c = λ e.
    let log = c.self.inside.log.items in
    let refs = c.self.inside.nodes.items in
    let none = none_in (LeasedUnder c.args.number) log c.deref.result.now refs c.deref-2.result.now c.deref.ensures.value c.deref-2.ensures.value (c.place_under.ensures.none c.in-None.is) in
    let P : Ledger → Type 0 = λ l. leased_under c.args.number l.tree ≡ 0 in
    subst P c.self.view_is (none_under log (tree_after log) c.self.inside.paths.all refs c.args.number c.self.invariant.0 none)
