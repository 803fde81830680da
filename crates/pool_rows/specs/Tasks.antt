-- A board of tasks, as its log tells it.
use Rattle.std.specs.Prelude.{ℕ, ◌≡◌, ◌≢◌, ◌+◌, ◌<◌, List, [], ◌∷◌, ◌++◌, length, Option, Some, None, slice_get}
use Rattle.turn_pool.specs.Logs.{Has}
use Rattle.pool_rows.specs.declared.entry.Entry.{Entry}
use Rattle.pool_rows.specs.declared.entry.Entry.TheVariants.{Leased, Idle, Settled}
use Rattle.pool_rows.specs.declared.entry.Lease.{Lease}

-- the next task, the number of tasks, and the log
pub record Board : Type 0 where
  pub next : ℕ
  pub tasks : ℕ
  pub log : List Entry

-- the number of the seat to which a task was leased
abbrev pub leased_to : Option Entry → List ℕ
leased_to None = []
leased_to (Some (Leased seat task)) = seat ∷ []
leased_to (Some (Idle seat)) = []
leased_to (Some (Settled seat place amount)) = []

-- the numbers that an entry touches: that of its seat, and of a settled lease the number of the seat to which it was given
abbrev pub touched : List Entry → Entry → List ℕ
touched log (Leased seat task) = seat ∷ []
touched log (Idle seat) = seat ∷ []
touched log (Settled seat place amount) = seat ∷ leased_to (slice_get log place)

abbrev pub is_lease : Entry → ℕ
is_lease (Leased seat task) = 1
is_lease (Idle seat) = 0
is_lease (Settled seat place amount) = 0

-- the number of leases
abbrev pub leases : List Entry → ℕ
leases [] = 0
leases (e ∷ log) = is_lease e + leases log

-- the place of a settled lease lies before the entry, which is the n-th
abbrev pub SettlesEarlier : ℕ → Entry → Type 0
SettlesEarlier n (Leased seat task) = Unit {0}
SettlesEarlier n (Idle seat) = Unit {0}
SettlesEarlier n (Settled seat settled amount) = settled < n

-- the entries, the first of which is the n-th, settle earlier leases alone
abbrev pub AllEarlier : ℕ → List Entry → Type 0
AllEarlier n [] = Unit {0}
AllEarlier n (e ∷ log) = SettlesEarlier n e × AllEarlier (n + 1) log

-- the board is the replay of its log from the first: as many tasks are given as there are leases
abbrev pub Replays : Board → Board → Type 0
Replays first b = (b.next ≡ first.next + leases b.log) × (b.tasks ≡ first.tasks) × AllEarlier 0 b.log

-- the entry settles no lease of this place
abbrev pub SettlesNot : ℕ → Entry → Type 0
SettlesNot place (Leased seat task) = Unit {0}
SettlesNot place (Idle seat) = Unit {0}
SettlesNot place (Settled seat settled amount) = settled ≢ place

abbrev pub NeverSettled : ℕ → List Entry → Type 0
NeverSettled place [] = Unit {0}
NeverSettled place (e ∷ log) = SettlesNot place e × NeverSettled place log

-- the lease was given to one of the numbers, and was not settled
abbrev pub IsOpen : List (ℕ × ℕ) → List Entry → Lease → Type 0
IsOpen spans log lease = (seat : ℕ) × (slice_get log lease.place ≡ Some (Leased seat lease.task)) × Has spans seat × NeverSettled lease.place log

abbrev pub with_entry : Board → ℕ → Entry → Board
with_entry b next e = record { next = next; tasks = b.tasks; log = b.log ++ e ∷ [] }

-- a seat asks for a task
abbrev pub Asks : ℕ → Board → Option Lease → Board → Type 0
Asks seat b (Some lease) c = (b.next < b.tasks) × (lease ≡ record { place = length b.log; task = b.next }) × (c ≡ with_entry b (b.next + 1) (Leased seat b.next))
Asks seat b None c = (b.tasks ≡ b.next) × (c ≡ with_entry b b.next (Idle seat))

-- a seat settles a lease
abbrev pub Settles : Lease → ℕ → ℕ → Board → Board → Type 0
Settles lease amount seat b c = c ≡ with_entry b b.next (Settled seat lease.place amount)
