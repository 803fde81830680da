-- A leaf that is leased: the event, and the board's counts after it.
use Rattle.std.proofs.Common.{◌≡◌, ◌∙◌, ℕ, ◌+◌, ◌≤◌, List, refl, sym, ap, subst, min, Option, Some, arith}
use Rattle.std.proofs.lemmas.Bool.Decides.{nat_tests}
use Rattle.rational.specs.Rational.{Rational}
use Rattle.certificate.specs.declared.split.Side.{Side}
use Rattle.search_tree.specs.declared.leaf.Lease.{Lease}
use Rattle.search_tree.specs.declared.leaf.Leaf.{Leaf}
use Rattle.search_tree.specs.declared.leaf.Leaf.TheVariants.{Leased}
use Rattle.search_tree.specs.declared.event.Event.TheVariants.{Leasing}
use Rattle.search_tree.specs.declared.event.Reply.TheVariants.{Given}
use Rattle.search_tree.specs.Tree.{Tree, AtLeaf, IsTodo, at_place, replaced, made, granted, lease_of, of_lease}
use Rattle.search_tree.specs.Board.{Board, after, next_lease}
use Rattle.search_tree.specs.Steps.{IsLease, IsReplay, opening}
use Rattle.search_tree.proofs.Laws.{made_replaced, one_more, sum_replaced, todo_not_leased}

-- a leaf that is to be worked on
pub record IsTodoOn (t : Tree) : Type 0 where
  pub way : List Side
  pub leaf : Leaf
  pub is_todo : IsTodo leaf
  pub there : at_place t way ≡ Some (AtLeaf leaf)

pub lease_is : (b : Board) (seat : ℕ) (at : IsTodoOn b.tree) (way told : List Side) (lease : Lease) (t : Tree) → way ≡ at.way → told ≡ at.way → lease ≡ next_lease b → t ≡ replaced b.tree at.way (AtLeaf (Leased lease))
    → IsLease b seat way lease (after b t b.best (Leasing seat) (Given told lease))
lease_is b seat at way told lease t is_way is_told is_lease is_tree =
    let A : List Side → Type 0 = λ w. at_place b.tree w ≡ Some (AtLeaf at.leaf) in
    record {
      leaf = at.leaf;
      is_todo = at.is_todo;
      there = subst A (sym is_way) at.there;
      is_lease = is_lease;
      new = ap (λ u. after b u b.best (Leasing seat) (Given told lease)) (is_tree ∙ ap (λ w. replaced b.tree w (AtLeaf (Leased lease))) (sym is_way))
          ∙ ap (λ w. after b (replaced b.tree way (AtLeaf (Leased lease))) b.best (Leasing seat) (Given w lease)) (is_told ∙ sym is_way);
    }

-- the same event, with the way that the log tells
pub lease_replays : (b : Board) (seat : ℕ) (at : IsTodoOn b.tree) (told : List Side) (lease : Lease) (t : Tree) → IsReplay b → told ≡ at.way → lease ≡ next_lease b → t ≡ replaced b.tree at.way (AtLeaf (Leased lease))
    → IsReplay (after b t b.best (Leasing seat) (Given told lease))
lease_replays b seat at told lease t h is_told is_lease is_tree =
    let s = lease_is b seat at told told lease t is_told is_told is_lease is_tree in
    record { cuts = h.cuts; history = one_more (opening b) b.log b (after b t b.best (Leasing seat) (Given told lease)) (record { event = Leasing seat; reply = Given told lease }) h.history s }

pub made_after : (t : Tree) (at : IsTodoOn t) (lease : Lease) (u : Tree) → u ≡ replaced t at.way (AtLeaf (Leased lease)) → made t ≡ made u
made_after t at lease u e = let more = made_replaced t at.way at.leaf (AtLeaf (Leased lease)) at.there in let same = ap made e in omega arith

pub granted_after : (t : Tree) (at : IsTodoOn t) (lease : Lease) (u : Tree) → u ≡ replaced t at.way (AtLeaf (Leased lease)) → granted t + lease.grant ≡ granted u
granted_after t at lease u e = let more = sum_replaced (λ leaf. of_lease (λ l. l.grant) (lease_of leaf)) t at.way at.leaf (AtLeaf (Leased lease)) at.there in let none_held = ap (of_lease (λ l. l.grant)) (todo_not_leased at.leaf at.is_todo) in let same = ap granted e in omega arith

abbrev pub lease_with : ℕ → ℕ → Option Rational → Lease
lease_with n g v = record { number = n; grant = g; best = v }

pub same_lease : (n m g h : ℕ) (v w : Option Rational) → n ≡ m → g ≡ h → v ≡ w → lease_with n g v ≡ lease_with m h w
same_lease n m g h v w e f k = rw (e, f, k) refl

pub sum_fits : (sum a b new top limit made : ℕ) → sum ≡ min (a + b) top → a + b ≡ new → made + new ≤ limit → limit ≤ top → sum ≡ new
sum_fits sum a b new top limit made e f h k = min_is (a + b) top sum new e f (omega arith)
  where
    min_is : (s top sum new : ℕ) → sum ≡ min s top → s ≡ new → s ≤ top → sum ≡ new
    min_is s top sum new e f h = grind (arith, nat_tests)
