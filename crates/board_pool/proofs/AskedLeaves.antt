-- What is answered to who asks for a leaf.
use Rattle.std.proofs.Common.{ℕ, ◌≡◌, List, [], Option, Some, None, sym, ap, subst}
use Rattle.std.specs.Option.{IfSome}
use Rattle.certificate.specs.declared.split.Side.{Side}
use Rattle.search_node.specs.Sides.{sides_of}
use Rattle.search_node.specs.declared.node.Node.{Node}
use Rattle.search_tree.specs.declared.leaf.Lease.{Lease}
use Rattle.search_tree.specs.declared.leaf.Leaf.TheVariants.{Leased as AtLease}
use Rattle.search_tree.specs.Tree.{Tree, AtLeaf, at_place, sides_to}
use Rattle.search_tree.specs.Board.{Board}
use Rattle.search_tree.specs.Steps.{IsLease}
use Rattle.tree_pool.specs.declared.answer.LeaseAnswer.{LeaseAnswer}
use Rattle.tree_pool.specs.declared.answer.LeaseAnswer.TheVariants as answers
use Rattle.tree_pool.specs.Answers.{IsAnswer}
use Rattle.board_pool.specs.declared.asked.LeasedLeaf.{LeasedLeaf}
use Rattle.board_pool.specs.declared.asked.Asked.TheVariants.{Leased}
use Rattle.board_pool.specs.Asks.{IsAsked}
use Rattle.board_pool.proofs.LeafStays.{at_replaced}

-- the node is that of the place where the lease is open
abbrev pub IsNodeOf : Board → Lease → Node → Type 0
IsNodeOf c lease node = (way : List Side) → at_place c.tree way ≡ Some (AtLeaf (AtLease lease)) → sides_of node.splits ≡ sides_to c.tree way []

at_way : (c : Board) (lease : Lease) (way : List Side) (node : Option Node) → at_place c.tree way ≡ Some (AtLeaf (AtLease lease)) → IfSome node (IsNodeOf c lease) → IfSome node (λ n. sides_of n.splits ≡ sides_to c.tree way [])
at_way c lease way None there h = tt
at_way c lease way (Some node) there h = h way there

pub asked_leased : (b c : Board) (seat : ℕ) (answer : LeaseAnswer) (lease : Lease) (hint : Unit {0}) (leaf : LeasedLeaf) → answer ≡ answers.Leased lease hint → IsAnswer b seat answer c → leaf.lease ≡ lease → IfSome leaf.node (IsNodeOf c lease) → IsAsked b seat (Leased leaf) c
asked_leased b c seat answer lease hint leaf e h same node =
    let P : LeaseAnswer → Type 0 = λ a. IsAnswer b seat a c in
    let l = subst P e h in
    let there : at_place c.tree l.0 ≡ Some (AtLeaf (AtLease lease)) = subst (λ (t : Tree). at_place t l.0 ≡ Some (AtLeaf (AtLease lease))) (sym (ap (λ (d : Board). d.tree) l.1.new)) (at_replaced b.tree l.0 (AtLeaf l.1.leaf) (AtLeaf (AtLease lease)) l.1.there) in
    (l.0, subst (λ (x : Lease). IsLease b seat l.0 x c) (sym same) l.1, at_way c lease l.0 leaf.node there node)
