-- Leases stay open from call to call.
use Rattle.std.proofs.Common.{ℕ, ◌≡◌, List, [], ◌∷◌, ◌++◌, Option, Some, None, sym, ap, subst}
use Rattle.std.specs.Option.{IfSome}
use Rattle.turn_pool.specs.declared.view.View.{View}
use Rattle.turn_pool.specs.declared.fault.PoolFault.{PoolFault}
use Rattle.turn_pool.specs.declared.fault.PoolFault.TheVariants.{Busy, NoMemory}
use Rattle.turn_pool.specs.Logs.{Has, GoesOn}
use Rattle.turn_pool.specs.Calls.{Called, Refused}
use Rattle.pool_rows.specs.declared.entry.Entry.{Entry}
use Rattle.pool_rows.specs.declared.entry.Entry.TheVariants.{Leased}
use Rattle.pool_rows.specs.declared.entry.Lease.{Lease}
use Rattle.pool_rows.specs.OpenLeases.{open_stays, open_now}
use Rattle.pool_rows.specs.Tasks.{Board, touched, Replays, IsOpen, Asks}

abbrev log_of : Board → List Entry
log_of b = b.log

abbrev V : Type 0
V = View Board Entry

-- the lease that a pass was given is open
pub given_open : (v w : V) (r : Option Lease) → Called touched log_of Replays Asks v r w → IfSome r (IsOpen w.spans w.seen)
given_open v w None c = tt
given_open v w (Some lease) c =
    let e = c.event in
    let task : c.before.next ≡ lease.task = sym (ap (λ (l : Lease). l.task) e.1) in
    let longer : c.after.log ≡ c.before.log ++ Leased v.own lease.task ∷ [] = subst (λ (t : ℕ). c.after.log ≡ c.before.log ++ Leased v.own t ∷ []) task (ap log_of e.2) in
    subst (λ (x : V). IsOpen x.spans x.seen lease) (sym c.sees)
    (open_now v.spans c.before.log c.after.log v.own lease longer (ap (λ (l : Lease). l.place) e.1) (c.within v.own c.own) c.replay.2)

-- a call that made no event leaves it open
pub still_open : (v w : V) (lease : Lease) (fault : PoolFault) → IsOpen v.spans v.seen lease → Refused touched log_of Replays v fault w → IsOpen w.spans w.seen lease
still_open v w lease (Busy holder) o r = subst (λ (x : V). IsOpen x.spans x.seen lease) (sym r.0) o
still_open v w lease NoMemory o r = subst (λ (x : V). IsOpen x.spans x.seen lease) (sym r.2)
    (subst (λ (l : List Entry). IsOpen v.spans l lease) (sym r.1.1) (open_stays v.spans v.seen r.1.0 lease o r.1.2))

-- more numbers, and a log that goes on without the old ones, leave it open
pub open_grown : (spans more : List (ℕ × ℕ)) (seen log : List Entry) (lease : Lease) → IsOpen spans seen lease → GoesOn touched spans seen log → ((k : ℕ) → Has spans k → Has more k) → IsOpen more log lease
open_grown spans more seen log lease o g grows = let p = subst (λ (l : List Entry). IsOpen spans l lease) (sym g.1) (open_stays spans seen g.0 lease o g.2) in (p.0, p.1, grows p.0 p.2, p.3)

pub maybe_grown : (spans more : List (ℕ × ℕ)) (seen log : List Entry) (lease : Option Lease) → IfSome lease (IsOpen spans seen) → GoesOn touched spans seen log → ((k : ℕ) → Has spans k → Has more k) → IfSome lease (IsOpen more log)
maybe_grown spans more seen log None o g grows = tt
maybe_grown spans more seen log (Some lease) o g grows = open_grown spans more seen log lease o g grows
