-- Weights of which some are kept, in their order.
use Rattle.std.proofs.Common.{◌≡◌, ◌∙◌, ℕ, zero, suc, ◌+◌, ◌*◌, ◌-◌, ◌<◌, ◌≤◌, List, [], ◌∷◌, ◌++◌, length, drop, get_or, Bool, true, false, if◌then◌else◌, refl, sym, ap, subst, arith}
use Rattle.std.specs.Prelude.{nat_lt}
use Rattle.std.proofs.lemmas.Bool.Decides.{nat_tests}
use Rattle.verdicts.specs.Certificate.{Item}
use Rattle.verdicts.specs.SplitRows.{first_items}
use Rattle.certificate.specs.Written.{is_negative, rank_of, next_rank, IsItem, AreItemsFrom}
use Rattle.row_columns.specs.Restored.{items_behind}

weaker : (least more : ℕ) (is : List Item) → least ≤ more → AreItemsFrom more is → AreItemsFrom least is
weaker least more [] l h = tt
weaker least more (i ∷ is) l h = let m = h.0 in (omega arith, h.1, h.2)

front : (least : ℕ) (is more : List Item) → AreItemsFrom least (is ++ more) → AreItemsFrom least is
front least [] more h = tt
front least (i ∷ is) more h = (h.0, h.1, front (rank_of i + 1) is more h.2)

back : (least : ℕ) (is more : List Item) → AreItemsFrom least (is ++ more) → AreItemsFrom (next_rank least is) more
back least [] more h = h
back least (i ∷ is) more h = back (rank_of i + 1) is more h.2

more_left : (is : List Item) (k : ℕ) (i : Item) → k < length is → i ≡ get_or is k i → drop k is ≡ i ∷ drop (suc k) is
more_left [] k i l e = absurd (omega arith)
more_left (x ∷ xs) zero i l e = ap (λ y. y ∷ xs) (sym e)
more_left (x ∷ xs) (suc k) i l e = more_left xs k i (omega arith) e

-- some of the weights are kept, each by itself, and they are in order
pub record Keeps (f : List Item → List Item) : Type 0 where
  pub each : (i : Item) (is : List Item) → f (i ∷ is) ≡ f (i ∷ []) ++ f is
  pub order : (is : List Item) → AreItemsFrom 0 is → AreItemsFrom 0 (f is)

-- the next one comes behind those that are kept
pub in_order : (f : List Item → List Item) (keeps : Keeps f) (is : List Item) (k : ℕ) (i : Item) (made : List Item) → k < length is → i ≡ get_or is k i → AreItemsFrom 0 is → made ++ f (drop k is) ≡ f is → AreItemsFrom (next_rank 0 made) (f (i ∷ []))
in_order f keeps is k i made l e written left =
    let rest : List Item = drop (suc k) is in
    let here : f (drop k is) ≡ f (i ∷ []) ++ f rest = ap f (more_left is k i l e) ∙ keeps.each i rest in
    let all : f is ≡ made ++ (f (i ∷ []) ++ f rest) = sym left ∙ ap (λ (xs : List Item). made ++ xs) here in
    front (next_rank 0 made) (f (i ∷ [])) (f rest) (back 0 made (f (i ∷ []) ++ f rest) (subst (λ (xs : List Item). AreItemsFrom 0 xs) all (keeps.order is written)))

-- ---- those of indices below n

first_order : (n least : ℕ) (is : List Item) → AreItemsFrom least is → AreItemsFrom least (first_items n is)
first_order n least [] h = tt
first_order n least (i ∷ is) h = go (nat_lt i.index n) (first_order n (rank_of i + 1) is h.2)
  where
    go : (b : Bool) → AreItemsFrom (rank_of i + 1) (first_items n is) → AreItemsFrom least (if b then i ∷ first_items n is else first_items n is)
    go true r = (h.0, h.1, r)
    go false r = let m = h.0 in weaker least (rank_of i + 1) (first_items n is) (omega arith) r

first_each : (n : ℕ) (i : Item) (is : List Item) → first_items n (i ∷ is) ≡ first_items n (i ∷ []) ++ first_items n is
first_each n i is = go (nat_lt i.index n)
  where
    go : (b : Bool) → (if b then i ∷ first_items n is else first_items n is) ≡ (if b then i ∷ [] else []) ++ first_items n is
    go true = refl
    go false = refl

pub first_keeps : (n : ℕ) → Keeps (first_items n)
first_keeps n = record { each = first_each n; order = first_order n 0 }

-- ---- those of indices from n on, which count from there

abbrev moved : ℕ → Item → Item
moved n i = record { index = i.index - n; weight = i.weight }

not_below : (m n : ℕ) → nat_lt m n ≡ false → n ≤ m
not_below m n h = grind (arith, nat_tests)

moved_rank : (n index sign least more : ℕ) → n ≤ index → least ≤ more - 2 * n → more ≤ 2 * index + sign → least ≤ 2 * (index - n) + sign
moved_rank n index sign least more b l m = omega arith

moved_next : (n index sign : ℕ) → n ≤ index → 2 * (index - n) + sign + 1 ≤ (2 * index + sign + 1) - 2 * n
moved_next n index sign b = omega arith

dropped_next : (n least more next : ℕ) → least ≤ more - 2 * n → more ≤ next → least ≤ (next + 1) - 2 * n
dropped_next n least more next l m = omega arith

moved_item : (n : ℕ) (i : Item) → IsItem i → IsItem (moved n i)
moved_item n i h = record { index = (let l = h.index in omega arith); some = h.some; number = h.number }

behind_order : (n least more : ℕ) (is : List Item) → least ≤ more - 2 * n → AreItemsFrom more is → AreItemsFrom least (items_behind n is)
behind_order n least more [] l h = tt
behind_order n least more (i ∷ is) l h = go (nat_lt i.index n) refl (λ m r. behind_order n m (rank_of i + 1) is r h.2)
  where
    go : (b : Bool) → nat_lt i.index n ≡ b → ((m : ℕ) → m ≤ (rank_of i + 1) - 2 * n → AreItemsFrom m (items_behind n is)) → AreItemsFrom least (if b then items_behind n is else moved n i ∷ items_behind n is)
    go true e rest = rest least (dropped_next n least more (rank_of i) l h.0)
    go false e rest =
        let b : n ≤ i.index = not_below i.index n e in
        let sign : ℕ = if is_negative i.weight then 1 else 0 in
        (moved_rank n i.index sign least more b l h.0, moved_item n i h.1, rest (rank_of (moved n i) + 1) (moved_next n i.index sign b))

behind_each : (n : ℕ) (i : Item) (is : List Item) → items_behind n (i ∷ is) ≡ items_behind n (i ∷ []) ++ items_behind n is
behind_each n i is = go (nat_lt i.index n)
  where
    go : (b : Bool) → (if b then items_behind n is else moved n i ∷ items_behind n is) ≡ (if b then [] else moved n i ∷ []) ++ items_behind n is
    go true = refl
    go false = refl

pub behind_keeps : (n : ℕ) → Keeps (items_behind n)
behind_keeps n = record { each = behind_each n; order = λ is h. behind_order n 0 0 is (omega arith) h }
