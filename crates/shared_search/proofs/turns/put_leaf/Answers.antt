use Rattle.std.proofs.Common.{sym, subst}
use Rattle.turn_pool.specs.Passes.{view_of}
use Rattle.search_tree.specs.Tree.{Tree}
use Rattle.board_pool.specs.Grafts.{MayBePut}
use Rattle.shared_search.specs.Holders.{first_of}
use Rattle.shared_search.proofs.turns.put_leaf.Goals as goal

pub put-requires-clause-may : goal.put-requires-clause-may
put-requires-clause-may c =
    let v = view_of c.args.pass.now in
    let h = c.requires.leaf in
    subst (λ (t : Tree). MayBePut (first_of v) v.spans v.seen c.args.lease t) (sym c.in_ok-tree.ensures)
    (c.trees_of_leases.ensures.leaf (first_of v) v.spans v.seen c.args.lease h.sides h.goal c.args.leaf h.is_open h.is_told h.keeps h.not_leased h.not_stuck)
