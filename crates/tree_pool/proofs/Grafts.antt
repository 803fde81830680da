-- A tree that is put in the place of a leased leaf: the event, and the board's counts after it.
use Rattle.std.proofs.Common.{◌≡◌, ◌∙◌, ℕ, ◌+◌, ◌-◌, ◌≤◌, List, [], ap, arith, Option}
use Rattle.rational.specs.Rational.{Rational}
use Rattle.certificate.specs.declared.split.Side.{Side}
use Rattle.search_tree.specs.declared.leaf.Lease.{Lease}
use Rattle.search_tree.specs.declared.leaf.Leaf.TheVariants.{Leased}
use Rattle.search_tree.specs.declared.event.Event.TheVariants.{Grafting}
use Rattle.search_tree.specs.declared.event.Reply.TheVariants.{Best}
use Rattle.search_tree.specs.Tree.{Tree, replaced, sides_to, made, granted, lease_of, of_lease}
use Rattle.search_tree.specs.Board.{Board, value_of, after}
use Rattle.search_tree.specs.Steps.{MayGraft, IsGraft, IsReplay, opening}
use Rattle.search_tree.proofs.Laws.{made_replaced, none_leased, one_more, sum_replaced}

pub graft_is : (b : Board) (way : List Side) (seat : ℕ) (lease : Lease) (t new : Tree) (best : Option Rational) (at : MayGraft b way lease t) → best ≡ value_of b → new ≡ replaced b.tree way t → IsGraft b seat lease t best (after b new b.best (Grafting seat lease t) (Best best))
graft_is b way seat lease t new best at is_best is_new = record {
  way = way;
  may = at;
  is_best = is_best;
  new = ap (λ u. after b u b.best (Grafting seat lease t) (Best best)) is_new;
}

pub graft_replays : (b : Board) (way : List Side) (seat : ℕ) (lease : Lease) (t new : Tree) (best : Option Rational) (at : MayGraft b way lease t) → IsReplay b → best ≡ value_of b → new ≡ replaced b.tree way t → IsReplay (after b new b.best (Grafting seat lease t) (Best best))
graft_replays b way seat lease t new best at h is_best is_new =
    record { cuts = h.cuts; history = one_more (opening b) b.log b (after b new b.best (Grafting seat lease t) (Best best)) (record { event = Grafting seat lease t; reply = Best best }) h.history (graft_is b way seat lease t new best at is_best is_new) }

pub made_grafted : (b : Board) (way : List Side) (lease : Lease) (t new : Tree) (at : MayGraft b way lease t) → new ≡ replaced b.tree way t → made b.tree + made t ≡ made new
made_grafted b way lease t new at e = let more = made_replaced b.tree way (Leased lease) t at.is_leased in let same = ap made e in omega arith

pub granted_grafted : (b : Board) (way : List Side) (lease : Lease) (t new : Tree) (at : MayGraft b way lease t) → new ≡ replaced b.tree way t → granted b.tree - lease.grant ≡ granted new
granted_grafted b way lease t new at e =
    let more = sum_replaced (λ leaf. of_lease (λ l. l.grant) (lease_of leaf)) b.tree way (Leased lease) t at.is_leased in
    let none = none_leased (λ l. l.grant) t (sides_to b.tree way []) at.sound.none_leased in
    let same = ap granted e in
    omega arith

pub made_fits : (sum a b new granted limit : ℕ) → (a + b ≤ limit → sum ≡ a + b) → a + b ≡ new → new + granted ≤ limit → sum ≡ new
made_fits sum a b new granted limit h e k = h (omega arith) ∙ e
