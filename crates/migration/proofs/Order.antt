-- The order of weights that are pushed one by one.
use Rattle.std.proofs.Common.{◌≡◌, ◌≢◌, ◌∙◌, ℕ, zero, suc, ◌+◌, ◌*◌, ◌<◌, ◌≤◌, List, [], ◌∷◌, length, get_or, Bool, true, false, if◌then◌else◌, Result, Ok, Err, refl, sym, ap, subst, arith}
use Rattle.std.specs.Prelude.{ℤ, pos, int_lt, nat_lt, unsigned_abs, ◌==◌, OnOk}
use Rattle.std.proofs.lemmas.Int.{ints}
use Rattle.std.proofs.lemmas.Bool.Decides.{nat_tests}
use Rattle.rational.specs.Rational.{Rational, zero_ℚ}
use Rattle.rational.specs.Compare.{is_less, is_zero}
use Rattle.rational.proofs.Laws.{positive_numerator}
use Rattle.verdicts.specs.Certificate.{Item}
use Rattle.verdicts.specs.Migrated.{Each, Rising, InRank, rank, placed}
use Rattle.certificate.specs.Written.{count_max, is_negative, rank_of, IsItem, AreItemsFrom}

-- weights that may be pushed, the first of them behind weights whose ranks are below `least`
abbrev pub AreInOrder : ℕ → List Item → Type 0
AreInOrder least [] = Unit {0}
AreInOrder least (i ∷ is) = (least ≤ rank_of i) × (i.index < count_max) × (i.weight.numerator ≢ pos 0) × AreInOrder (rank_of i + 1) is

above_zero : (n : ℤ) → int_lt (pos 0) n ≡ true → (int_lt n (pos 0) ≡ false) × (n ≢ pos 0)
above_zero n h = (grind (arith, ints), λ e. (let f : int_lt (pos 0) (pos 0) ≡ true = rw (e) at h in cc))

positive : (w : Rational) → is_less zero_ℚ w ≡ true → (is_negative w ≡ false) × (w.numerator ≢ pos 0)
positive w h = above_zero w.numerator (positive_numerator w ∙ h)

rank_positive : (i : Item) → is_less zero_ℚ i.weight ≡ true → rank_of i ≡ 2 * i.index
rank_positive i h = let n = (positive i.weight h).0 in rw n (omega arith)

in_order : (least bound : ℕ) (is : List Item) → bound ≤ 2 * least → Rising least is → Each (λ i. is_less zero_ℚ i.weight ≡ true) is → Each (λ i. i.index < count_max) is → AreInOrder bound is
in_order least bound [] l r p c = tt
in_order least bound (i ∷ is) l r p c =
    let e = rank_positive i p.0 in
    let more = r.0 in
    (omega arith, c.0, (positive i.weight p.0).1, in_order (i.index + 1) (rank_of i + 1) is (omega arith) r.1 p.1 c.1)

pub all_in_order : (is : List Item) → Rising 0 is → Each (λ i. is_less zero_ℚ i.weight ≡ true) is → Each (λ i. i.index < count_max) is → AreInOrder 0 is
all_in_order is r p c = in_order 0 0 is (omega arith) r p c

-- ---- the items of a certificate

-- each of them is one
pub item_of : (least : ℕ) (is : List Item) (k : ℕ) (i : Item) → AreItemsFrom least is → k < length is → i ≡ get_or is k i → IsItem i
item_of least [] k i h l e = absurd (omega arith)
item_of least (j ∷ js) zero i h l e = rw e h.1
item_of least (j ∷ js) (suc k) i h l e = item_of (rank_of j + 1) js k i h.2 (omega arith) e

pub weaker : (least more : ℕ) (is : List Item) → least ≤ more → AreItemsFrom more is → AreItemsFrom least is
weaker least more [] l h = tt
weaker least more (i ∷ is) l h = let m = h.0 in (omega arith, h.1, h.2)

zero_number : (n : ℤ) → n ≢ pos 0 → (unsigned_abs n == 0) ≡ false
zero_number n h = go (unsigned_abs n == 0) refl
  where
    go : (b : Bool) → (unsigned_abs n == 0) ≡ b → (unsigned_abs n == 0) ≡ false
    go true e = absurd (h (let f : unsigned_abs n ≡ 0 = grind (arith, nat_tests) in omega (arith, ints)))
    go false e = e

pub not_zero : (w : Rational) → w.numerator ≢ pos 0 → is_zero w ≡ false
not_zero w h = zero_number w.numerator h

signs : (n : ℤ) → n ≢ pos 0 → ◌≡◌ {A = ℕ} (if int_lt (pos 0) n then 0 else 1) (if int_lt n (pos 0) then 1 else 0)
signs n h = go (int_lt (pos 0) n) (int_lt n (pos 0)) refl refl
  where
    go : (a b : Bool) → int_lt (pos 0) n ≡ a → int_lt n (pos 0) ≡ b → ◌≡◌ {A = ℕ} (if a then 0 else 1) (if b then 1 else 0)
    go true true e f = absurd (never n e f)
      where
        never : (n : ℤ) → int_lt (pos 0) n ≡ true → int_lt n (pos 0) ≡ true → ⊥
        never n e f = grind (arith, ints)
    go true false e f = refl
    go false true e f = refl
    go false false e f = absurd (h (grind (arith, ints)))

abbrev sign : Bool → ℕ
sign b = if b then 0 else 1

same_rank : (i : Item) → i.weight.numerator ≢ pos 0 → rank i ≡ rank_of i
same_rank i h = ap (λ n. 2 * i.index + n) (ap (λ (b : Bool). sign b) (sym (positive_numerator i.weight)) ∙ signs i.weight.numerator h)

ranked : (least : ℕ) (is : List Item) → AreItemsFrom least is → InRank least is
ranked least [] h = tt
ranked least (i ∷ is) h = let e = same_rank i h.1.some in rw e (h.0, ranked (rank_of i + 1) is h.2)

pub in_rank : (is : List Item) → AreItemsFrom 0 is → InRank 0 is
in_rank is h = ranked 0 is h

-- ---- weights of splits

pub each_placed : (F : Item → Type 0) (i : Item) (is : List Item) → F i → Each F is → Each F (placed i is)
each_placed F i [] h k = (h, tt)
each_placed F i (j ∷ js) h k = go (nat_lt j.index i.index) (each_placed F i js h k.1)
  where
    go : (b : Bool) → Each F (placed i js) → Each F (if b then j ∷ placed i js else i ∷ j ∷ js)
    go true r = (k.0, r)
    go false r = (h, k)

-- with one more, whose index a text has too
pub indices_placed : {T E : Type 0} → (r : Result T E) (i : Item) (old new : List Item) (index : ℕ) → OnOk r (new ≡ placed i old) → i.index ≡ index → index < count_max → Each (λ i. i.index < count_max) old → OnOk r (Each (λ i. i.index < count_max) new)
indices_placed (Ok x) i old new index made e l h = subst (λ (is : List Item). Each (λ i. i.index < count_max) is) (sym made) (each_placed (λ i. i.index < count_max) i old (subst (λ (n : ℕ). n < count_max) (sym e) l) h)
indices_placed (Err x) i old new index made e l h = tt
