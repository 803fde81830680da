-- Events that touch none of the numbers leave a lease open.
use Rattle.std.specs.Prelude.{ℕ, zero, suc, ◌≡◌, ◌+◌, ◌<◌, ◌≤◌, List, [], ◌∷◌, ◌++◌, length, Option, Some, None, slice_get}
use Rattle.std.proofs.Common.{refl, sym, ap, ◌∙◌, subst, inl, inr, arith}
use Rattle.turn_pool.specs.Logs.{IsIn, Has, IsClear, IsApart}
use Rattle.pool_rows.specs.declared.entry.Entry.{Entry}
use Rattle.pool_rows.specs.declared.entry.Entry.TheVariants.{Leased, Idle, Settled}
use Rattle.pool_rows.specs.declared.entry.Lease.{Lease}
use Rattle.pool_rows.specs.Tasks.{leased_to, touched, SettlesNot, SettlesEarlier, AllEarlier, NeverSettled, IsOpen}

not_none : (e : Entry) → None ≡ Some e → ⊥
not_none e is = subst (λ (o : Option Entry). elim o as (λ _. Type 0) [ None ↦ Unit {0} | Some x ↦ ⊥ ]) is tt

get_longer : (log more : List Entry) (n : ℕ) (e : Entry) → slice_get log n ≡ Some e → slice_get (log ++ more) n ≡ Some e
get_longer [] more n e is = absurd (not_none e is)
get_longer (x ∷ log) more zero e is = is
get_longer (x ∷ log) more (suc n) e is = get_longer log more n e is

pub get_below : (log : List Entry) (n : ℕ) (e : Entry) → slice_get log n ≡ Some e → n < length log
get_below [] n e is = absurd (not_none e is)
get_below (x ∷ log) zero e is = omega arith
get_below (x ∷ log) (suc n) e is = let p = get_below log n e is in omega arith

get_last : (log : List Entry) (n : ℕ) (e : Entry) → n ≡ length log → slice_get (log ++ e ∷ []) n ≡ Some e
get_last [] zero e is = refl
get_last [] (suc n) e is = absurd (omega arith)
get_last (x ∷ log) zero e is = absurd (omega arith)
get_last (x ∷ log) (suc n) e is = get_last log n e (omega arith)

not_yet_one : (n place : ℕ) (e : Entry) → n ≤ place → SettlesEarlier n e → SettlesNot place e
not_yet_one n place (Leased s t) le before = tt
not_yet_one n place (Idle s) le before = tt
not_yet_one n place (Settled s settled amount) le before = λ same. omega arith

not_yet : (n place : ℕ) (log : List Entry) → n + length log ≤ place + 1 → AllEarlier n log → NeverSettled place log
not_yet n place [] le all = tt
not_yet n place (e ∷ log) le all = (not_yet_one n place e (omega arith) all.0, not_yet (n + 1) place log (omega arith) all.1)

length-snoc : (log : List Entry) (e : Entry) → length (log ++ e ∷ []) ≡ length log + 1
length-snoc [] e = omega arith
length-snoc (x ∷ log) e = omega (arith, length-snoc log e)

never_longer : (place : ℕ) (log more : List Entry) → NeverSettled place log → NeverSettled place more → NeverSettled place (log ++ more)
never_longer place [] more a b = b
never_longer place (e ∷ log) more a b = (a.0, never_longer place log more a.1 b)

-- a lease that was just given is open
pub open_now : (spans : List (ℕ × ℕ)) (before after : List Entry) (seat : ℕ) (lease : Lease) → after ≡ before ++ Leased seat lease.task ∷ [] → lease.place ≡ length before → Has spans seat → AllEarlier 0 after → IsOpen spans after lease
open_now spans before after seat lease is place has all = (
  seat,
  subst (λ (l : List Entry). slice_get l lease.place ≡ Some (Leased seat lease.task)) (sym is) (get_last before lease.place (Leased seat lease.task) place),
  has,
  not_yet 0 lease.place after (let long : length after ≡ length before + 1 = ap length is ∙ length-snoc before (Leased seat lease.task) in omega arith) all,
)

-- an entry that is clear of the number does not settle its lease
not_by : (spans : List (ℕ × ℕ)) (log : List Entry) (place seat task : ℕ) (e : Entry) → slice_get log place ≡ Some (Leased seat task) → Has spans seat → IsClear touched spans log e → SettlesNot place e
not_by spans log place seat task (Leased s t) at has clear = tt
not_by spans log place seat task (Idle s) at has clear = tt
not_by spans log place seat task (Settled s settled amount) at has clear = λ same. clear seat has (inr (subst (λ (o : Option Entry). IsIn (leased_to o) seat) (sym (ap (slice_get log) same ∙ at)) (inl refl)))

rest_never : (spans : List (ℕ × ℕ)) (log rest : List Entry) (place seat task : ℕ) → slice_get log place ≡ Some (Leased seat task) → Has spans seat → IsApart touched spans log rest → NeverSettled place rest
rest_never spans log [] place seat task at has apart = tt
rest_never spans log (e ∷ rest) place seat task at has apart = (
  not_by spans log place seat task e at has apart.0,
  rest_never spans (log ++ e ∷ []) rest place seat task (get_longer log (e ∷ []) place (Leased seat task) at) has apart.1,
)

pub open_stays : (spans : List (ℕ × ℕ)) (log rest : List Entry) (lease : Lease) → IsOpen spans log lease → IsApart touched spans log rest → IsOpen spans (log ++ rest) lease
open_stays spans log rest lease o apart = (
  o.0,
  get_longer log rest lease.place (Leased o.0 lease.task) o.1,
  o.2,
  never_longer lease.place log rest o.3 (rest_never spans log rest lease.place o.0 lease.task o.1 o.2 apart),
)
