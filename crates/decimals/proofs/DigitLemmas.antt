-- Digits of a number whose last digits stand apart.
use Rattle.std.proofs.Common.{◌≡◌, ◌∙◌, ℕ, zero, suc, ◌+◌, ◌-◌, ◌*◌, ◌/◌, ◌%◌, ◌^◌, ◌<◌, ◌≤◌, List, [], ◌∷◌, ◌++◌, refl, sym, ap, arith, append_assoc, append-nil}
use Rattle.std.proofs.Math.Nat.{add-zero, add-suc, pow-suc, div-div-eq-div-mul, mod-lt}
use Rattle.std.proofs.lemmas.Nat.{div-add-mod'}
use Rattle.std.proofs.lemmas.Bool.Decides.{nat_tests}
use Rattle.std.specs.Prelude.{codes, ◌==◌, false}
use Rattle.std.specs.Fmt.{decimal}
use Rattle.decimals.specs.Digits.{last_digits, written, shortened}
use Rattle.decimals.proofs.Powers.{tens_pos, tens_parts}

-- n is q with the digits of r behind it
record Ends (k n q r : ℕ) : Type 0 where
  is : n ≡ q * 10 ^ k + r
  small : r < 10 ^ k

ends_of : (k n : ℕ) → Ends k n (n / 10 ^ k) (n % 10 ^ k)
ends_of k n = record { is = sym (div-add-mod' n (10 ^ k)); small = mod-lt n (tens_pos k) }

-- one digit less at the end
one_less : (k n q r : ℕ) → Ends (suc k) n q r → Ends k (n / 10) q (r / 10) × (n % 10 ≡ r % 10)
one_less k n q r e =
    let power : 10 ^ suc k ≡ 10 ^ k * 10 = pow-suc 10 k in
    let is : n ≡ q * (10 ^ k * 10) + r = rw (← power) e.is in
    let small : r < 10 ^ k * 10 = rw (← power) e.small in
    (record { is = omega arith; small = omega arith }, omega arith)

last_of : (k n q r : ℕ) → Ends k n q r → last_digits k n ≡ last_digits k r
unfolding last_digits
last_of zero n q r e = refl
last_of (suc k) n q r e =
    let less = one_less k n q r e in
    ap (λ ds. ds ++ (48 + n % 10) ∷ []) (last_of k (n / 10) q (r / 10) less.0) ∙ ap (λ x. last_digits k (r / 10) ++ (48 + x) ∷ []) less.1

last_parts : (j k n q r : ℕ) → Ends k n q r → last_digits (j + k) n ≡ last_digits j q ++ last_digits k r
unfolding last_digits
last_parts j zero n q r e =
    let same : n ≡ q = let small : r < 1 = e.small in let is : n ≡ q * 1 + r = e.is in omega arith in
    ap (λ i. last_digits i n) (add-zero j) ∙ ap (last_digits j) same ∙ sym (append-nil (last_digits j q))
last_parts j (suc k) n q r e =
    let less = one_less k n q r e in
    ap (λ i. last_digits i n) (add-suc j k)
    ∙ ap (λ ds. ds ++ (48 + n % 10) ∷ []) (last_parts j k (n / 10) q (r / 10) less.0)
    ∙ ap (λ x. (last_digits j q ++ last_digits k (r / 10)) ++ (48 + x) ∷ []) less.1
    ∙ append_assoc (last_digits j q) (last_digits k (r / 10)) ((48 + r % 10) ∷ [])

pub low_digits : (k n : ℕ) → last_digits k n ≡ last_digits k (n % 10 ^ k)
low_digits k n = last_of k n (n / 10 ^ k) (n % 10 ^ k) (ends_of k n)

pub digit_parts : (j k n : ℕ) → last_digits (j + k) n ≡ last_digits j (n / 10 ^ k) ++ last_digits k (n % 10 ^ k)
digit_parts j k n = last_parts j k n (n / 10 ^ k) (n % 10 ^ k) (ends_of k n)

pub front_parts : (j k n : ℕ) → j ≤ k → n / 10 ^ j / 10 ^ (k - j) ≡ n / 10 ^ k
front_parts j k n h = div-div-eq-div-mul n (10 ^ j) (10 ^ (k - j)) ∙ ap (λ x. n / x) (sym (tens_parts j k h))

written_some : (k n : ℕ) → 0 < k → written k n ≡ (decimal (n / 10 ^ k) ++ codes ".") ++ last_digits k n
unfolding written
written_some zero n h = absurd (omega arith)
written_some (suc k) n h = refl

-- what is written in one piece, and behind a front
pub whole_and_rest : (text after pointed : List ℕ) (n k w r : ℕ) → 0 < k → w ≡ n / 10 ^ k → r ≡ n % 10 ^ k → after ≡ text ++ decimal w → pointed ≡ after ++ codes "."
    → pointed ++ last_digits k r ≡ text ++ written k n
whole_and_rest text after pointed n k w r some e f first second =
    let front : pointed ≡ text ++ (decimal (n / 10 ^ k) ++ codes ".") = second ∙ ap (λ x. x ++ codes ".") (first ∙ ap (λ x. text ++ decimal x) e) ∙ append_assoc text (decimal (n / 10 ^ k)) (codes ".") in
    ap (λ x. pointed ++ last_digits k x) f ∙ ap (λ x. pointed ++ x) (sym (low_digits k n)) ∙ ap (λ x. x ++ last_digits k n) front
    ∙ append_assoc text (decimal (n / 10 ^ k) ++ codes ".") (last_digits k n) ∙ ap (λ x. text ++ x) (sym (written_some k n some))

pub front_and_rest : (text after : List ℕ) (n j k q r : ℕ) → j < k → q ≡ n / 10 ^ j → r ≡ n % 10 ^ j → after ≡ text ++ written (k - j) q
    → after ++ last_digits j r ≡ text ++ written k n
front_and_rest text after n j k q r some e f first =
    let front : List ℕ = decimal (n / 10 ^ k) ++ codes "." in
    let left : written (k - j) q ≡ front ++ last_digits (k - j) (n / 10 ^ j) =
    ap (written (k - j)) e ∙ written_some (k - j) (n / 10 ^ j) (omega arith) ∙ ap (λ x. (decimal x ++ codes ".") ++ last_digits (k - j) (n / 10 ^ j)) (front_parts j k n (omega arith)) in
    let digits : last_digits k n ≡ last_digits (k - j) (n / 10 ^ j) ++ last_digits j (n % 10 ^ j) =
    let whole : k ≡ (k - j) + j = omega arith in ap (λ i. last_digits i n) whole ∙ digit_parts (k - j) j n in
    ap (λ x. x ++ last_digits j r) (first ∙ ap (λ x. text ++ x) left) ∙ ap (λ x. (text ++ (front ++ last_digits (k - j) (n / 10 ^ j))) ++ last_digits j x) f
    ∙ append_assoc text (front ++ last_digits (k - j) (n / 10 ^ j)) (last_digits j (n % 10 ^ j))
    ∙ ap (λ x. text ++ x) (append_assoc front (last_digits (k - j) (n / 10 ^ j)) (last_digits j (n % 10 ^ j)) ∙ ap (λ x. front ++ x) (sym digits) ∙ sym (written_some k n (omega arith)))

not_zero : (n : ℕ) → ¬ (n ≡ 0) → (n == 0) ≡ false
not_zero zero h = absurd (h refl)
not_zero (suc n) h = grind (arith, nat_tests)

pub shortened_more : (k n last : ℕ) → 0 < k → last ≡ n % 10 → ¬ (last ≡ 0) → shortened k n ≡ written k n
unfolding shortened
shortened_more zero n last h e f = absurd (omega arith)
shortened_more (suc k) n last h e f = rw (not_zero (n % 10) (λ z. f (e ∙ z))) refl
