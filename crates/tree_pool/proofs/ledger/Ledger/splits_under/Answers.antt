use Rattle.std.proofs.Common.{◌≡◌, ◌∙◌, ◌≤◌, Some, sym, ap, subst, arith}
use Rattle.search_tree.specs.declared.leaf.Leaf.TheVariants.{Leased}
use Rattle.search_tree.specs.Tree.{AtLeaf, at_place, leased_under}
use Rattle.tree_pool.specs.declared.kind.Kind.TheVariants.{LeasedUnder}
use Rattle.tree_pool.specs.Paths.{path_at}
use Rattle.tree_pool.specs.Standing.{way_of}
use Rattle.tree_pool.specs.Places.{taken_to}
use Rattle.tree_pool.specs.Grown.{tree_after}
use Rattle.tree_pool.specs.Ledger.{Ledger}
use Rattle.tree_pool.proofs.Results.{if_ok}
use Rattle.tree_pool.proofs.KindLemmas.{place_in}
use Rattle.tree_pool.proofs.Ledgers.{leased_on}
use Rattle.tree_pool.proofs.Unders.{one_way}
use Rattle.tree_pool.proofs.ledger.Ledger.splits_under.Goals as goal

pub splits_to-requires : goal.splits_to-requires
splits_to-requires c =
    let log = c.self.inside.log.items in
    let refs = c.self.inside.nodes.items in
    let at = place_in (LeasedUnder c.args.number) log c.deref.result.now refs c.deref-2.result.now c.in-Some.place c.deref.ensures.value c.deref-2.ensures.value c.in-Some.ensures.under in
    let less = at.within in
    let each = c.self.invariant.0.each in
    omega (arith, less, each)

pub returns : goal.returns
returns c =
    let log = c.self.inside.log.items in
    let refs = c.self.inside.nodes.items in
    let t = tree_after log in
    let are = c.self.invariant.0 in
    let at = place_in (LeasedUnder c.args.number) log c.deref.result.now refs c.deref-2.result.now c.in-Some.place c.deref.ensures.value c.deref-2.ensures.value c.in-Some.ensures.under in
    let path = path_at c.self.inside.paths.all c.in-Some.place in
    let found = leased_on log t c.self.inside.paths.all refs c.in-Some.place c.args.number are at in
    let P : Ledger → Type 0 = λ l. leased_under c.args.number l.tree ≤ 1 in
    let one = subst P (sym c.self.view_is) c.requires in
    if_ok c.splits_to.result _ _ (λ taken h way lease there is_number.
    let Q : Ledger → Type 0 = λ l. at_place l.tree way ≡ Some (AtLeaf (Leased lease)) in
    let same = one_way t (way_of path) way found.lease lease c.args.number found.there found.is_under (subst Q (sym c.self.view_is) there) is_number one in
    h ∙ sym (are.stands c.in-Some.place at.within).are_taken ∙ ap (taken_to t) same ∙ ap (λ l. taken_to l.tree way) c.self.view_is) c.splits_to.ensures
