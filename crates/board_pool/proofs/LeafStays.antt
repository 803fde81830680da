-- A leased leaf stays where it is, below the same splits, until its lease ends.
use Rattle.std.proofs.Common.{ℕ, ◌≡◌, ◌≢◌, List, [], ◌∷◌, ◌++◌, Some, refl, sym, ap, ◌∙◌, subst}
use Rattle.verdicts.specs.Certificate.{Side as SideOf, Low as LowOf, High as HighOf}
use Rattle.certificate.specs.declared.split.Side.{Side}
use Rattle.certificate.specs.declared.split.Side.TheVariants.{Low, High}
use Rattle.search_tree.specs.declared.leaf.Lease.{Lease}
use Rattle.search_tree.specs.declared.leaf.Leaf.{Leaf}
use Rattle.search_tree.specs.declared.leaf.Leaf.TheVariants.{Leased}
use Rattle.search_tree.specs.declared.event.Event.{Event}
use Rattle.search_tree.specs.declared.event.Event.TheVariants.{Leasing, Idling, Grafting, Offering, Reclaiming}
use Rattle.search_tree.specs.declared.event.Reply.{Reply}
use Rattle.search_tree.specs.declared.event.Reply.TheVariants.{Given, StillLeased, Best, Done}
use Rattle.search_tree.specs.declared.event.Entry.{Entry}
use Rattle.search_tree.specs.Tree.{Tree, Divided, AtLeaf, IsTodo, at_place, replaced, sides_to}
use Rattle.search_tree.specs.Board.{Board}
use Rattle.search_tree.specs.Steps.{Step, IsHistory}
use Rattle.board_pool.specs.OpenLeases.{LeavesOpen, AllLeaveOpen, IsOpenFor}

-- u has the leaf at this place too, below the same splits as t
abbrev Stays : Tree → Tree → List Side → Leaf → Type 0
Stays t u way leaf = (at_place u way ≡ Some (AtLeaf leaf)) × ((above : List SideOf) → sides_to u way above ≡ sides_to t way above)

-- a leaf stays where a tree is put in the place of another leaf
stays_beside : (t : Tree) (way other : List Side) (leaf replaced_leaf : Leaf) (u : Tree) → at_place t way ≡ Some (AtLeaf leaf) → at_place t other ≡ Some (AtLeaf replaced_leaf) → way ≢ other → Stays t (replaced t other u) way leaf
stays_beside (AtLeaf l) [] [] leaf replaced_leaf u there at differ = absurd (differ refl)
stays_beside (AtLeaf l) (side ∷ way) other leaf replaced_leaf u there at differ = cc
stays_beside (AtLeaf l) [] (side ∷ other) leaf replaced_leaf u there at differ = cc
stays_beside (Divided s low high) [] other leaf replaced_leaf u there at differ = cc
stays_beside (Divided s low high) (side ∷ way) [] leaf replaced_leaf u there at differ = cc
stays_beside (Divided s low high) (Low ∷ way) (Low ∷ other) leaf replaced_leaf u there at differ =
    let r = stays_beside low way other leaf replaced_leaf u there at (λ e. differ (ap (λ (w : List Side). Low ∷ w) e)) in
    (r.0, λ above. r.1 (LowOf s ∷ above))
stays_beside (Divided s low high) (Low ∷ way) (High ∷ other) leaf replaced_leaf u there at differ = (there, λ above. refl)
stays_beside (Divided s low high) (High ∷ way) (Low ∷ other) leaf replaced_leaf u there at differ = (there, λ above. refl)
stays_beside (Divided s low high) (High ∷ way) (High ∷ other) leaf replaced_leaf u there at differ =
    let r = stays_beside high way other leaf replaced_leaf u there at (λ e. differ (ap (λ (w : List Side). High ∷ w) e)) in
    (r.0, λ above. r.1 (HighOf s ∷ above))

same_leaf : (t : Tree) (way other : List Side) (leaf other_leaf : Leaf) → way ≡ other → at_place t way ≡ Some (AtLeaf leaf) → at_place t other ≡ Some (AtLeaf other_leaf) → leaf ≡ other_leaf
same_leaf t way other leaf other_leaf same there at = let is : Some (AtLeaf leaf) ≡ Some (AtLeaf other_leaf) = sym there ∙ (ap (at_place t) same ∙ at) in cc

abbrev number_of : Leaf → ℕ
number_of (Leased lease) = lease.number
number_of other = 0

stays_in : (t u v : Tree) (way : List Side) (leaf : Leaf) → v ≡ u → Stays t u way leaf → Stays t v way leaf
stays_in t u v way leaf is stays = subst (λ (x : Tree). Stays t x way leaf) (sym is) stays

tree_of_board : (b c : Board) → b ≡ c → b.tree ≡ c.tree
tree_of_board b c is = ap (λ (x : Board). x.tree) is

-- a step that does not end the lease leaves its leaf
step_leaves : (b c : Board) (event : Event) (reply : Reply) (way : List Side) (lease : Lease) → Step b event reply c → at_place b.tree way ≡ Some (AtLeaf (Leased lease)) → LeavesOpen lease.number event → Stays b.tree c.tree way (Leased lease)
step_leaves b c (Leasing seat) (Given other l) way lease s there leaves =
    stays_in b.tree _ c.tree way (Leased lease) (tree_of_board c _ s.new) (stays_beside b.tree way other (Leased lease) s.leaf (AtLeaf (Leased l)) there s.there
    (λ e. subst IsTodo (same_leaf b.tree other way s.leaf (Leased lease) (sym e) s.there there) s.is_todo))
step_leaves b c (Idling seat) (StillLeased n) way lease s there leaves = stays_in b.tree b.tree c.tree way (Leased lease) (tree_of_board c _ s.new) (there, λ above. refl)
step_leaves b c (Grafting seat l t) (Best best) way lease s there leaves =
    stays_in b.tree _ c.tree way (Leased lease) (tree_of_board c _ s.new) (stays_beside b.tree way s.way (Leased lease) (Leased l) t there s.may.is_leased
    (λ e. leaves (ap number_of (same_leaf b.tree s.way way (Leased l) (Leased lease) (sym e) s.may.is_leased there))))
step_leaves b c (Offering seat x) (Best best) way lease s there leaves = stays_in b.tree b.tree c.tree way (Leased lease) (tree_of_board c _ s.new) (there, λ above. refl)
step_leaves b c Reclaiming Done way lease s there leaves = absurd leaves
step_leaves b c event reply way lease s there leaves = absurd s

-- so does a history
pub history_leaves : (b c : Board) (log : List Entry) (way : List Side) (lease : Lease) → IsHistory b log c → at_place b.tree way ≡ Some (AtLeaf (Leased lease)) → AllLeaveOpen lease.number log → Stays b.tree c.tree way (Leased lease)
history_leaves b c [] way lease h there leave = subst (λ (x : Board). Stays b.tree x.tree way (Leased lease)) h (there, λ above. refl)
history_leaves b c (e ∷ log) way lease h there leave =
    let one = step_leaves b h.0 e.event e.reply way lease h.1 there leave.0 in
    let more = history_leaves h.0 c log way lease h.2 one.0 leave.1 in
    (more.0, λ above. more.1 above ∙ one.1 above)

pub at_replaced : (t : Tree) (way : List Side) (x u : Tree) → at_place t way ≡ Some x → at_place (replaced t way u) way ≡ Some u
at_replaced t [] x u h = refl
at_replaced (AtLeaf leaf) (side ∷ way) x u h = cc
at_replaced (Divided s low high) (Low ∷ way) x u h = at_replaced low way x u h
at_replaced (Divided s low high) (High ∷ way) x u h = at_replaced high way x u h

-- the history of two logs, one after the other, passes a board between them
pub history_parts : (b c : Board) (log more : List Entry) → IsHistory b (log ++ more) c → (between : Board) × IsHistory b log between × IsHistory between more c
history_parts b c [] more h = (b, refl, h)
history_parts b c (e ∷ log) more h = let parts = history_parts h.0 c log more h.2 in (parts.0, (h.0, h.1, parts.1), parts.2)

-- a lease that is open in a log is that of a leaf of the tree to which the log leads
pub open_lease_is_there : (first c : Board) (spans : List (ℕ × ℕ)) (log : List Entry) (way : List Side) (lease : Lease) → IsHistory first log c → IsOpenFor spans log way lease → at_place c.tree way ≡ Some (AtLeaf (Leased lease))
open_lease_is_there first c spans log way lease h o =
    let parts = history_parts first c o.before _ (subst (λ (l : List Entry). IsHistory first l c) o.is_log h) in
    let given = parts.2 in
    let s = given.1 in
    let there : at_place given.0.tree way ≡ Some (AtLeaf (Leased lease)) =
    subst (λ (t : Tree). at_place t way ≡ Some (AtLeaf (Leased lease))) (sym (tree_of_board given.0 _ s.new)) (at_replaced parts.0.tree way (AtLeaf s.leaf) (AtLeaf (Leased lease)) s.there) in
    (history_leaves given.0 c o.since way lease given.2 there o.not_ended).0
