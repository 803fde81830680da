-- Each event is one entry more.
use Rattle.std.proofs.Common.{ℕ, ◌≡◌, ◌+◌, List, [], ◌∷◌, ◌++◌, Option, Some, None, length, refl, sym, subst, inl, ⊎_elim, arith}
use Rattle.turn_pool.specs.Logs.{IsIn, Has}
use Rattle.turn_pool.specs.Events.{IsOneMore}
use Rattle.pool_rows.specs.declared.entry.Entry.{Entry}
use Rattle.pool_rows.specs.declared.entry.Entry.TheVariants.{Leased, Idle, Settled}
use Rattle.pool_rows.specs.declared.entry.Lease.{Lease}
use Rattle.pool_rows.specs.OpenLeases.{get_below}
use Rattle.pool_rows.specs.Tasks.{Board, leased_to, touched, is_lease, leases, SettlesEarlier, AllEarlier, Replays, IsOpen, with_entry, Asks, Settles}

leases_snoc : (log : List Entry) (e : Entry) → leases (log ++ e ∷ []) ≡ leases log + is_lease e
leases_snoc [] e = omega arith
leases_snoc (x ∷ log) e = omega (arith, leases_snoc log e)

earlier_snoc : (n m : ℕ) (log : List Entry) (e : Entry) → m ≡ n + length log → AllEarlier n log → SettlesEarlier m e → AllEarlier n (log ++ e ∷ [])
earlier_snoc n m [] e is all last = let same : m ≡ n = omega arith in (subst (λ (k : ℕ). SettlesEarlier k e) same last, tt)
earlier_snoc n m (x ∷ log) e is all last = (all.0, earlier_snoc (n + 1) m log e (omega arith) all.1 last)

abbrev log_of : Board → List Entry
log_of b = b.log

-- with_entry, where the numbers that the entry touches are all in the spans
one : (spans : List (ℕ × ℕ)) (seat : ℕ) (first b : Board) (next : ℕ) (e : Entry) → IsIn (touched b.log e) seat → ((k : ℕ) → IsIn (touched b.log e) k → Has spans k) → Replays first b → next ≡ b.next + is_lease e → SettlesEarlier (length b.log) e
    → IsOneMore touched log_of Replays spans seat first b (with_entry b next e)
one spans seat first b next e own within r is early = record {
  entry = e;
  longer = refl;
  own = own;
  within = within;
  replay = (let p = r.0 in omega (arith, leases_snoc b.log e), r.1, earlier_snoc 0 (length b.log) b.log e (omega arith) r.2 early);
}

alone : (spans : List (ℕ × ℕ)) (seat : ℕ) → Has spans seat → (k : ℕ) → IsIn (seat ∷ []) k → Has spans k
alone spans seat has k = ⊎_elim (λ (e : k ≡ seat). subst (Has spans) (sym e) has) (λ (z : ⊥). absurd z)

pub asks_one : (spans : List (ℕ × ℕ)) (seat : ℕ) (first b c : Board) (r : Option Lease) → Has spans seat → Replays first b → Asks seat b r c → IsOneMore touched log_of Replays spans seat first b c
asks_one spans seat first b c (Some lease) has r a = subst (IsOneMore touched log_of Replays spans seat first b) (sym a.2) (one spans seat first b (b.next + 1) (Leased seat b.next) (inl refl) (alone spans seat has) r refl tt)
asks_one spans seat first b c None has r a = subst (IsOneMore touched log_of Replays spans seat first b) (sym a.1) (one spans seat first b b.next (Idle seat) (inl refl) (alone spans seat has) r (omega arith) tt)

pub settles_one : (spans : List (ℕ × ℕ)) (seat : ℕ) (first b c : Board) (lease : Lease) (amount : ℕ) → Has spans seat → Replays first b → IsOpen spans b.log lease → Settles lease amount seat b c → IsOneMore touched log_of Replays spans seat first b c
settles_one spans seat first b c lease amount has r o s = subst (IsOneMore touched log_of Replays spans seat first b) (sym s) (one spans seat first b b.next (Settled seat lease.place amount) (inl refl)
    (λ k. ⊎_elim (λ (e : k ≡ seat). subst (Has spans) (sym e) has) (λ h. alone spans o.0 o.2 k (subst (λ (x : Option Entry). IsIn (leased_to x) k) o.1 h))) r (omega arith) (get_below b.log lease.place (Leased o.0 lease.task) o.1))
