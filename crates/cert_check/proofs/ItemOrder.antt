-- Weights in ascending order of index, found by halving.
use Rattle.std.proofs.Common.{◌≡◌, ◌∙◌, ℕ, zero, suc, ◌+◌, ◌*◌, ◌<◌, ◌≤◌, ◌==◌, Bool, true, false, if◌then◌else◌, length, get_or, drop, add-one, List, [], ◌∷◌, refl, sym, ap, subst, arith}
use Rattle.std.proofs.lemmas.Bool.Decides.{nat_tests}
use Rattle.rational.specs.Rational.{Rational}
use Rattle.verdicts.specs.Certificate.{Item}
use Rattle.certificate.specs.Written.{is_negative, rank_of, AreItemsFrom}
use Rattle.cert_check.specs.Lookup.{at_index}
use Rattle.cert_check.proofs.Products.{next}

-- an index is half of its rank
pub least_rank : (i : Item) → 2 * i.index ≤ rank_of i
least_rank i = go (is_negative i.weight)
  where
    go : (t : Bool) → 2 * i.index ≤ 2 * i.index + (if t then 1 else 0)
    go true = omega arith
    go false = omega arith

pub greatest_rank : (i : Item) → rank_of i ≤ 2 * i.index + 1
greatest_rank i = go (is_negative i.weight)
  where
    go : (t : Bool) → 2 * i.index + (if t then 1 else 0) ≤ 2 * i.index + 1
    go true = omega arith
    go false = omega arith

pub other : (a b : ℕ) → ¬ (a ≡ b) → (a == b) ≡ false
other a b h = grind (arith, nat_tests)

-- one weight of another index less
pub not_here : (i : Item) (is : List Item) (index : ℕ) (factor : Rational) → ¬ (i.index ≡ index) → at_index (i ∷ is) index factor ≡ at_index is index factor
not_here i is index factor h = rw (other i.index index h) refl

rank_from : (least : ℕ) (items : List Item) (n : ℕ) (x : Item) → AreItemsFrom least items → n < length items → x ≡ get_or items n x → least ≤ rank_of x
rank_from least [] n x h small is = absurd (omega arith)
rank_from least (i ∷ is) zero x h small e = subst (λ y. least ≤ rank_of y) (sym e) h.0
rank_from least (i ∷ is) (suc n) x h small e = let later : rank_of i + 1 ≤ rank_of x = rank_from (rank_of i + 1) is n x h.2 (omega arith) e in omega (arith, h.0, later)

skipped : (least : ℕ) (items : List Item) (n : ℕ) (x : Item) (index : ℕ) (factor : Rational) → AreItemsFrom least items → n < length items → x ≡ get_or items n x → x.index < index → at_index (drop (suc n) items) index factor ≡ at_index items index factor
skipped least [] n x index factor h small e low = absurd (omega arith)
skipped least (i ∷ is) zero x index factor h small e low = sym (not_here i is index factor (λ k. let same : x.index ≡ i.index = ap (λ (y : Item). y.index) e in absurd (omega arith)))
skipped least (i ∷ is) (suc n) x index factor h small e low =
    let later : rank_of i + 1 ≤ rank_of x = rank_from (rank_of i + 1) is n x h.2 (omega arith) e in
    let first : 2 * i.index ≤ rank_of i = least_rank i in
    let last : rank_of x ≤ 2 * x.index + 1 = greatest_rank x in
    skipped (rank_of i + 1) is n x index factor h.2 (omega arith) e low ∙ sym (not_here i is index factor (λ k. absurd (omega (arith, later, first, last, k, low))))

pub before_skipped : (items : List Item) (n : ℕ) (x : Item) (index : ℕ) (factor : Rational) → AreItemsFrom 0 items → n < length items → x ≡ get_or items n x → x.index < index → at_index (drop (n + 1) items) index factor ≡ at_index items index factor
before_skipped items n x index factor h small e low = rw (add-one n) (skipped 0 items n x index factor h small e low)

-- none of an index that is passed
pub none_left : (least : ℕ) (items : List Item) (index : ℕ) (factor : Rational) → AreItemsFrom least items → 2 * index + 1 < least → at_index items index factor ≡ []
none_left least [] index factor h past = refl
none_left least (i ∷ is) index factor h past =
    let last : rank_of i ≤ 2 * i.index + 1 = greatest_rank i in
    not_here i is index factor (λ k. absurd (omega (arith, h.0, last, k, past))) ∙ none_left (rank_of i + 1) is index factor h.2 (omega (arith, h.0, past))

pub rest_from : (least : ℕ) (items : List Item) (n : ℕ) (x : Item) → AreItemsFrom least items → n < length items → x ≡ get_or items n x → AreItemsFrom (rank_of x + 1) (drop (suc n) items)
rest_from least [] n x h small e = absurd (omega arith)
rest_from least (i ∷ is) zero x h small e = subst (λ y. AreItemsFrom (rank_of y + 1) is) (sym e) h.2
rest_from least (i ∷ is) (suc n) x h small e = rest_from (rank_of i + 1) is n x h.2 (omega arith) e

-- after a weight of a greater index there is none
pub none_after : (items : List Item) (n : ℕ) (x : Item) (index : ℕ) (factor : Rational) → AreItemsFrom 0 items → n < length items → x ≡ get_or items n x → index < x.index → at_index (drop n items) index factor ≡ []
none_after items n x index factor h small e high =
    let first : 2 * x.index ≤ rank_of x = least_rank x in
    ap (λ xs. at_index xs index factor) (next items n x small e) ∙ not_here x (drop (n + 1) items) index factor (λ k. absurd (omega arith)) ∙ rw (add-one n) (none_left (rank_of x + 1) (drop (suc n) items) index factor (rest_from 0 items n x h small e) (omega (arith, first, high)))
