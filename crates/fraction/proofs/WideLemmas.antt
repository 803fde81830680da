-- A product and a sum by wide numbers.
use Rattle.std.proofs.Common.{◌≡◌, ◌∙◌, ℕ, zero, suc, ◌*◌, ◌/◌, ◌%◌, refl, sym, ap, Bool, true, false, not}
use Rattle.std.specs.Bool.{beq}
use Rattle.std.proofs.Math.Nat.{zero-div, mul_comm}
use Rattle.std.specs.Prelude.{ℤ, pos, neg_ℤ, ◌*ℤ◌, ◌+ℤ◌, unsigned_abs, int_div}
use Rattle.integer.specs.Gcd.{gcd}
use Rattle.integer.specs.Lowest.{IsLowest}
use Rattle.integer.proofs.Laws.{gcd_step, neg_mul, mul_neg, neg_neg}
use Rattle.rational.specs.Rational.{Rational, over, ◌*ℚ◌, ◌+ℚ◌}
use Rattle.fraction.specs.Fits.{common_den}
use Rattle.fraction.specs.Canonical.{signed}
use Rattle.fraction.proofs.FracLemmas.{over-numerator, over-denominator, product_num, product_den, product_over, lowest_from}
use Rattle.fraction.proofs.LiteralLemmas.{minus-through}
use Rattle.fraction.proofs.BinaryLemmas.{gcd-swap}
use Rattle.fraction.proofs.SumLemmas.{sum_of, lowest_shared, over_shared}
use Rattle.fraction.proofs.CanonicalLaw.{size_of}

sign_through : (negative : Bool) (a b : ℕ) → signed negative a *ℤ pos b ≡ signed negative (a * b)
sign_through true a b = minus-through a b
sign_through false a b = refl

sign_quotient : (negative : Bool) (n g : ℕ) → int_div (signed negative n) (pos g) ≡ signed negative (n / g)
sign_quotient false n g = refl
sign_quotient true zero g = rw (zero-div g) refl
sign_quotient true (suc n) g = refl

-- ---- the product

signed_product : (s t : Bool) (x y : ℕ) → signed (not (beq s t)) (x * y) ≡ signed s x *ℤ signed t y
signed_product false false x y = refl
signed_product true false x y = sym (neg_mul (pos x) (pos y))
signed_product false true x y = sym (mul_neg (pos x) (pos y))
signed_product true true x y = sym (neg_mul (pos x) (neg_ℤ (pos y)) ∙ ap neg_ℤ (mul_neg (pos x) (pos y)) ∙ neg_neg (pos (x * y)))

record IsProductOf (p q : Rational) (n : ℤ) (d : ℕ) : Type 0 where
  total : n ≡ product_num p q
  below : d ≡ product_den p q

product_is : (p q : Rational) (s t : Bool) (a b c d left right n m : ℕ) → signed s a ≡ p.numerator → b ≡ p.denominator → signed t c ≡ q.numerator → d ≡ q.denominator → left ≡ gcd a d → right ≡ gcd c b
    → n ≡ a / left * (c / right) → m ≡ b / right * (d / left) → IsProductOf p q (signed (not (beq s t)) n) m
product_is p q s t a b c d left right n m e f g h i j k l =
    let size : unsigned_abs p.numerator ≡ a = ap unsigned_abs (sym e) ∙ size_of s a in
    let other : unsigned_abs q.numerator ≡ c = ap unsigned_abs (sym g) ∙ size_of t c in
    let both = signed_product s t (a / left) (c / right) in
    let first : signed s (a / left) ≡ int_div p.numerator (pos left) = sym (sign_quotient s a left) ∙ ap (λ z. int_div z (pos left)) e in
    let second : signed t (c / right) ≡ int_div q.numerator (pos right) = sym (sign_quotient t c right) ∙ ap (λ z. int_div z (pos right)) g in
    record { total = cc; below = cc }

pub product_lowest : (p q : Rational) (s t : Bool) (a b c d left right n m : ℕ) → signed s a ≡ p.numerator → b ≡ p.denominator → signed t c ≡ q.numerator → d ≡ q.denominator → left ≡ gcd a d → right ≡ gcd c b
    → n ≡ a / left * (c / right) → m ≡ b / right * (d / left) → IsLowest (signed (not (beq s t)) n) m
product_lowest p q s t a b c d left right n m e f g h i j k l =
    let is = product_is p q s t a b c d left right n m e f g h i j k l in
    lowest_from p q _ _ is.total is.below

pub product_value : (p q : Rational) (s t : Bool) (a b c d left right n m : ℕ) → signed s a ≡ p.numerator → b ≡ p.denominator → signed t c ≡ q.numerator → d ≡ q.denominator → left ≡ gcd a d → right ≡ gcd c b
    → n ≡ a / left * (c / right) → m ≡ b / right * (d / left) → over (signed (not (beq s t)) n) m ≡ p *ℚ q
product_value p q s t a b c d left right n m e f g h i j k l =
    let is = product_is p q s t a b c d left right n m e f g h i j k l in
    rw (is.total, is.below) (product_over p q)

-- ---- the sum

pub divisor_of_rest : (n m r g : ℕ) → r ≡ n % m → g ≡ gcd r m → g ≡ gcd n m
divisor_of_rest n m r g e f = f ∙ ap (λ x. gcd x m) e ∙ gcd-swap (n % m) m ∙ gcd_step n m

record IsSum (p q : Rational) (n : ℤ) (d g : ℕ) : Type 0 where
  total : n ≡ sum_of p q
  below : d ≡ common_den p q
  common : g ≡ gcd p.denominator q.denominator

sum_is : (p q : Rational) (s u v : Bool) (a b c e g n d : ℕ) → signed s a ≡ p.numerator → b ≡ p.denominator → signed u c ≡ q.numerator → e ≡ q.denominator → g ≡ gcd b e
    → signed v n ≡ signed s (a * (e / g)) +ℤ signed u (b / g * c) → d ≡ b * (e / g) → IsSum p q (signed v n) d g
sum_is p q s u v a b c e g n d left low right below common total den =
    let turned : b / g * c ≡ c * (b / g) = mul_comm (b / g) c in
    let x = sign_through s a (e / g) in
    let y = sign_through u c (b / g) in
    record { total = cc; below = cc; common = cc }

pub sum_lowest : (s u v : Bool) (a b c e g n d : ℕ) (q : Rational) → IsLowest (signed s a) b → signed u c ≡ q.numerator → e ≡ q.denominator → g ≡ gcd b e
    → signed v n ≡ signed s (a * (e / g)) +ℤ signed u (b / g * c) → d ≡ b * (e / g) → IsLowest (signed v (n / gcd n g)) (d / gcd n g)
sum_lowest s u v a b c e g n d q low right below common total den =
    let p = over (signed s a) b in
    let is = sum_is p q s u v a b c e g n d (sym (over-numerator _ _ low)) (sym (over-denominator _ _ low)) right below common total den in
    lowest_shared p q (signed v n) _ d _ g (gcd n g) is.total is.below is.common (ap (λ x. gcd x g) (sym (size_of v n))) (sym (sign_quotient v n (gcd n g))) refl

pub sum_value : (s u v : Bool) (a b c e g n d : ℕ) (q : Rational) → IsLowest (signed s a) b → signed u c ≡ q.numerator → e ≡ q.denominator → g ≡ gcd b e
    → signed v n ≡ signed s (a * (e / g)) +ℤ signed u (b / g * c) → d ≡ b * (e / g) → over (signed v (n / gcd n g)) (d / gcd n g) ≡ over (signed s a) b +ℚ q
sum_value s u v a b c e g n d q low right below common total den =
    let p = over (signed s a) b in
    let is = sum_is p q s u v a b c e g n d (sym (over-numerator _ _ low)) (sym (over-denominator _ _ low)) right below common total den in
    over_shared p q _ (signed v n) _ d _ g (gcd n g) is.total is.below is.common (ap (λ x. gcd x g) (sym (size_of v n))) (sym (sign_quotient v n (gcd n g))) refl refl
