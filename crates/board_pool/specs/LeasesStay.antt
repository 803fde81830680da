-- Entries that touch none of the numbers leave a lease open.
use Rattle.std.proofs.Common.{ℕ, ◌≡◌, List, [], ◌∷◌, ◌++◌, length, Option, Some, slice_get, refl, sym, ap, ◌∙◌, subst, inl, inr, ⊎_elim, append_assoc, append-nil}
use Rattle.verdicts.specs.Certificate.{Side as SideOf}
use Rattle.certificate.specs.declared.split.Side.{Side}
use Rattle.turn_pool.specs.Logs.{IsIn, Has, IsApart}
use Rattle.search_tree.specs.declared.leaf.Lease.{Lease}
use Rattle.search_tree.specs.declared.event.Event.{Event}
use Rattle.search_tree.specs.declared.event.Event.TheVariants.{Leasing, Idling, Grafting, Offering, Reclaiming}
use Rattle.search_tree.specs.declared.event.Entry.{Entry}
use Rattle.search_tree.specs.Board.{Board}
use Rattle.board_pool.specs.Touched.{touched, touched_by, leased_by, leased_at, leased_in}
use Rattle.board_pool.specs.OpenLeases.{lease_to, LeavesOpen, AllLeaveOpen, IsOpenFor, IsLeasedBelow}

in_front : (xs ys : List ℕ) (k : ℕ) → IsIn xs k → IsIn (xs ++ ys) k
in_front [] ys k h = absurd h
in_front (x ∷ xs) ys k h = ⊎_elim (λ a. inl a) (λ b. inr (in_front xs ys k b)) h

in_back : (xs ys : List ℕ) (k : ℕ) → IsIn ys k → IsIn (xs ++ ys) k
in_back [] ys k h = h
in_back (x ∷ xs) ys k h = inr (in_back xs ys k h)

-- the entry behind `before` stands at the place of that length
pub entry_behind : (before since more : List Entry) (e : Entry) → slice_get ((before ++ e ∷ since) ++ more) (length before) ≡ Some e
entry_behind [] since more e = refl
entry_behind (x ∷ before) since more e = entry_behind before since more e

-- who is given a lease by an entry of a log is given one in the log
leased_in_log : (before since more : List Entry) (e : Entry) (seat : ℕ) → IsIn (leased_by e.event) seat → IsIn (leased_in ((before ++ e ∷ since) ++ more)) seat
leased_in_log [] since more e seat h = in_front (leased_by e.event) _ seat h
leased_in_log (x ∷ before) since more e seat h = in_back (leased_by x.event) _ seat (leased_in_log before since more e seat h)

-- an entry that touches none of the numbers does not end a lease that was given to one of them
clear_leaves_open : (spans : List (ℕ × ℕ)) (before since more : List Entry) (way : List Side) (lease : Lease) (seat : ℕ) (e : Event) → lease.number ≡ length before → Has spans seat
    → ((k : ℕ) → Has spans k → ¬ (IsIn (touched_by ((before ++ lease_to seat way lease ∷ since) ++ more) e) k)) → LeavesOpen lease.number e
clear_leaves_open spans before since more way lease seat (Leasing s) number has clear = tt
clear_leaves_open spans before since more way lease seat (Idling s) number has clear = tt
clear_leaves_open spans before since more way lease seat (Grafting s other t) number has clear = λ same.
    let found = ap (slice_get _) (same ∙ number) ∙ entry_behind before since more (lease_to seat way lease) in
    clear seat has (inr (subst (λ (o : Option Entry). IsIn (leased_at o) seat) (sym found) (inl refl)))
clear_leaves_open spans before since more way lease seat (Offering s x) number has clear = tt
clear_leaves_open spans before since more way lease seat Reclaiming number has clear = clear seat has (leased_in_log before since more (lease_to seat way lease) seat (inl refl))

apart_leave_open : (spans : List (ℕ × ℕ)) (before since more rest : List Entry) (way : List Side) (lease : Lease) (seat : ℕ) → lease.number ≡ length before → Has spans seat
    → IsApart touched spans ((before ++ lease_to seat way lease ∷ since) ++ more) rest → AllLeaveOpen lease.number rest
apart_leave_open spans before since more [] way lease seat number has apart = tt
apart_leave_open spans before since more (e ∷ rest) way lease seat number has apart = (
  clear_leaves_open spans before since more way lease seat e.event number has apart.0,
  apart_leave_open spans before since (more ++ e ∷ []) rest way lease seat number has (subst (λ (log : List Entry). IsApart touched spans log rest) (append_assoc _ more (e ∷ [])) apart.1),
)

pub all_leave_open : (number : ℕ) (log more : List Entry) → AllLeaveOpen number log → AllLeaveOpen number more → AllLeaveOpen number (log ++ more)
all_leave_open number [] more a b = b
all_leave_open number (e ∷ log) more a b = (a.0, all_leave_open number log more a.1 b)

-- a lease is still open behind entries that do not end it
unfoldable pub open_behind : (spans : List (ℕ × ℕ)) (log rest : List Entry) (way : List Side) (lease : Lease) → IsOpenFor spans log way lease → AllLeaveOpen lease.number rest → IsOpenFor spans (log ++ rest) way lease
open_behind spans log rest way lease o leave = record {
  seat = o.seat;
  before = o.before;
  since = o.since ++ rest;
  is_log = ap (λ (l : List Entry). l ++ rest) o.is_log ∙ append_assoc o.before (lease_to o.seat way lease ∷ o.since) rest;
  number = o.number;
  has = o.has;
  not_ended = all_leave_open lease.number o.since rest o.not_ended leave;
}

-- entries that touch none of the numbers end no lease of theirs
pub none_ends : (spans : List (ℕ × ℕ)) (log rest : List Entry) (way : List Side) (lease : Lease) → IsOpenFor spans log way lease → IsApart touched spans log rest → AllLeaveOpen lease.number rest
none_ends spans log rest way lease o apart =
    apart_leave_open spans o.before o.since [] rest way lease o.seat o.number o.has (subst (λ (l : List Entry). IsApart touched spans l rest) (o.is_log ∙ sym (append-nil _)) apart)

-- a leaf that is leased below these splits stays so behind entries that do not end the lease
pub leased_behind : (first : Board) (spans : List (ℕ × ℕ)) (log rest : List Entry) (lease : Lease) (sides : List SideOf) → (l : IsLeasedBelow first spans log lease sides) → AllLeaveOpen lease.number rest → IsLeasedBelow first spans (log ++ rest) lease sides
unfolding open_behind
leased_behind first spans log rest lease sides l leave = record {
  way = l.way;
  is_open = open_behind spans log rest l.way lease l.is_open leave;
  given = l.given;
  history = l.history;
  is_below = l.is_below;
}
