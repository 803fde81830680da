-- Lists of workers.
use Rattle.std.proofs.Common.{◌≡◌, ℕ, ◌⊎◌, List, [], ◌∷◌, ◌++◌, ◌<◌, zero, suc, length, length-append, slice_index_or, map, refl, sym, arith, inl, inr, ⊎_elim, subst, Option, Some, None}
use Rattle.std.specs.List.{All}
use Rattle.std.specs.Option.{IfSome}
use Rattle.turn_pool.specs.Logs.{Has}
use Rattle.turn_pool.specs.declared.view.Key.{Key}
use Rattle.turn_pool.specs.Turns.{held, opening_view}
use Rattle.search_tree.specs.declared.event.Entry.{Entry}
use Rattle.search_tree.specs.Board.{Board}
use Rattle.shared_search.specs.declared.worker.Worker.{Worker}
use Rattle.shared_search.specs.Crews.{numbers, AnyHas}

any_snoc : (workers : List Worker) (w : Worker) (k : ℕ) → AnyHas (workers ++ w ∷ []) k → AnyHas workers k ⊎ Has (numbers w) k
any_snoc [] w k = ⊎_elim (λ h. inr h) (λ (z : ⊥). absurd z)
any_snoc (x ∷ workers) w k = ⊎_elim (λ h. inl (inl h)) (λ h. ⊎_elim (λ a. inl (inr a)) (λ b. inr b) (any_snoc workers w k h))

-- what all held is held after the last was taken in
pub after_one : (all rest : List Worker) (before after w : Worker) → all ≡ rest ++ w ∷ [] → ((k : ℕ) → Has (numbers before) k ⊎ Has (numbers w) k → Has (numbers after) k)
    → (k : ℕ) → Has (numbers before) k ⊎ AnyHas all k → Has (numbers after) k ⊎ AnyHas rest k
after_one all rest before after w is grows k = ⊎_elim (λ h. inl (grows k (inl h))) (λ h. ⊎_elim (λ a. inr a) (λ b. inl (grows k (inr b))) (any_snoc rest w k (subst (λ (l : List Worker). AnyHas l k) is h)))

get_first : (xs ys : List Worker) (k : ℕ) (d : Worker) → k < length xs → slice_index_or (xs ++ ys) k d ≡ slice_index_or xs k d
get_first [] ys k d l = absurd (omega arith)
get_first (x ∷ xs) ys zero d l = refl
get_first (x ∷ xs) ys (suc k) d l = get_first xs ys k d (omega arith)

-- what holds of all holds of the first of them
pub all_first : (P : Worker → Type 0) (all xs : List Worker) (w : Worker) → all ≡ xs ++ w ∷ [] → All P all → All P xs
all_first P all xs w is every = λ k d l. subst P (get_first xs (w ∷ []) k d l) (subst (λ (zs : List Worker). All P zs) is every k d (let p = length-append xs (w ∷ []) in omega arith))

any_left : (xs ys : List Worker) (k : ℕ) → AnyHas xs k → AnyHas (xs ++ ys) k
any_left [] ys k h = absurd h
any_left (x ∷ xs) ys k h = ⊎_elim (λ a. inl a) (λ b. inr (any_left xs ys k b)) h

any_last : (xs : List Worker) (w : Worker) (k : ℕ) → Has (numbers w) k → AnyHas (xs ++ w ∷ []) k
any_last [] w k h = inl h
any_last (x ∷ xs) w k h = inr (any_last xs w k h)

-- the last one hands its numbers to the list
pub any_longer : (xs : List Worker) (w : Worker) (all : List Worker) → all ≡ xs ++ w ∷ [] → (k : ℕ) → AnyHas xs k ⊎ Has (numbers w) k → AnyHas all k
any_longer xs w all is k h = subst (λ (l : List Worker). AnyHas l k) (sym is) (⊎_elim (λ a. any_left xs (w ∷ []) k a) (λ b. any_last xs w k b) h)

-- the one before is split in two, of which one goes to the list
pub any_split : (xs all : List Worker) (before after w : Worker) → all ≡ xs ++ w ∷ [] → ((k : ℕ) → Has (numbers before) k → Has (numbers after) k ⊎ Has (numbers w) k)
    → (k : ℕ) → AnyHas xs k ⊎ Has (numbers before) k → AnyHas all k ⊎ Has (numbers after) k
any_split xs all before after w is cuts k h = ⊎_elim (λ a. inl (any_longer xs w all is k (inl a))) (λ b. ⊎_elim (λ p. inr p) (λ q. inl (any_longer xs w all is k (inr q))) (cuts k b)) h

-- the numbers of all, as lists
abbrev AnyOf : List (List (ℕ × ℕ)) → ℕ → Type 0
AnyOf [] k = ⊥
AnyOf (spans ∷ more) k = Has spans k ⊎ AnyOf more k

as_lists : (xs : List Worker) (k : ℕ) → AnyHas xs k → AnyOf (map numbers xs) k
as_lists [] k h = h
as_lists (x ∷ xs) k h = ⊎_elim (λ a. inl a) (λ b. inr (as_lists xs k b)) h

of_lists : (xs : List Worker) (k : ℕ) → AnyOf (map numbers xs) k → AnyHas xs k
of_lists [] k h = h
of_lists (x ∷ xs) k h = ⊎_elim (λ a. inl a) (λ b. inr (of_lists xs k b)) h

pub any_kept : (xs ys : List Worker) → map numbers ys ≡ map numbers xs → (k : ℕ) → AnyHas xs k → AnyHas ys k
any_kept xs ys is k h = of_lists ys k (subst (λ (l : List (List (ℕ × ℕ))). AnyOf l k) (sym is) (as_lists xs k h))

-- the last of the list, and the others
pub any_popped : (all rest : List Worker) (w : Worker) → all ≡ rest ++ w ∷ [] → (k : ℕ) → AnyHas all k → Has (numbers w) k ⊎ AnyHas rest k
any_popped all rest w is k h = ⊎_elim (λ a. inr a) (λ b. inl b) (any_snoc rest w k (subst (λ (l : List Worker). AnyHas l k) is h))

pub all_one : (P : Worker → Type 0) (w : Worker) → P w → All P (w ∷ [])
all_one P w p zero d l = p
all_one P w p (suc k) d l = absurd (omega arith)

opening_by : (key : Key Board) (k : ℕ) → k < key.seats → Has (held (opening_view {E = Entry} key)) k
opening_by key zero l = inr (inl (omega arith, omega arith))
opening_by key (suc k) l = inl (omega arith, l)

-- at the start one pass holds all numbers
pub opening_has : (key : Key Board) (k : ℕ) → k < key.seats → Has (held (opening_view {E = Entry} key)) k
opening_has key k l = opening_by key k l

-- what one worker holds, if there is one
pub some_holds : (P Q : ℕ → Type 0) (r : Option Worker) → ((k : ℕ) → P k → Q k) → IfSome r (λ w. (k : ℕ) → Q k → Has (numbers w) k) → IfSome r (λ w. (k : ℕ) → P k → Has (numbers w) k)
some_holds P Q None f h = tt
some_holds P Q (Some w) f h = λ k p. h k (f k p)
