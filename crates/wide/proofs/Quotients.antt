-- Quotients by words, by bits and by parts.
use Rattle.std.proofs.Common.{◌≡◌, ◌∙◌, ℕ, ◌+◌, ◌*◌, ◌^◌, ◌<◌, ◌≤◌, ◌/◌, ◌%◌, sym, ap, arith, lit≤}
use Rattle.std.proofs.Math.Nat.{pow-le-pow_right}
use Rattle.std.proofs.lemmas.Grind.{pow_more}
use Rattle.std.proofs.lemmas.Nat.{div-mul-add, mod-mul-add}
use Rattle.wide.specs.Parts.{whole_of, part_end}

pub quotient_of : (n q d r : ℕ) → n ≡ q * d + r → r < d → q ≡ n / d
quotient_of n q d r e h = sym (ap (λ x. x / d) e ∙ div-mul-add q d r h)

pub rest_of : (n q d r : ℕ) → n ≡ q * d + r → r < d → r ≡ n % d
rest_of n q d r e h = sym (ap (λ x. x % d) e ∙ mod-mul-add q d r h)

-- two digits of a quotient in base w
digits_quotient : (w low high rest d f s o l : ℕ) → high + w * rest ≡ f * d + o → low + w * o ≡ s * d + l → low + w * (high + w * rest) ≡ (s + w * f) * d + l
digits_quotient w low high rest d f s o l e g =
    let scaled : w * (high + w * rest) ≡ w * (f * d + o) = ap (λ x. w * x) e in
    omega arith

pub words_quotient : (part low high rest d f s o l q : ℕ) → part ≡ low + 2 ^ 64 * high → high + 2 ^ 64 * rest ≡ f * d + o → low + 2 ^ 64 * o ≡ s * d + l → q ≡ s + 2 ^ 64 * f
    → part + 2 ^ 128 * rest ≡ q * d + l
words_quotient part low high rest d f s o l q p e g h = rw h (let k = digits_quotient (2 ^ 64) low high rest d f s o l e g in omega arith)

-- three digits
parts_scaled : (w a b c q r s d o u l : ℕ) → c ≡ q * d + o → b + w * o ≡ r * d + u → a + w * u ≡ s * d + l → (c * w + b) * w + a ≡ ((q * w + r) * w + s) * d + l
parts_scaled w a b c q r s d o u l e f g =
    let first : c * w + b ≡ (q * w + r) * d + u = rw e (omega arith) in
    let second : ((q * w + r) * d + u) * w + a ≡ ((q * w + r) * w + s) * d + l = omega arith in
    ap (λ x. x * w + a) first ∙ second

pub parts_quotient : (n m a b c q r s d o u l : ℕ) → n ≡ whole_of a b c → c + 2 ^ 128 * 0 ≡ q * d + o → b + 2 ^ 128 * o ≡ r * d + u → a + 2 ^ 128 * u ≡ s * d + l → m ≡ whole_of s r q
    → n ≡ m * d + l
parts_quotient n m a b c q r s d o u l p e f g h = rw (p, h) (parts_scaled part_end a b c q r s d o u l (omega arith) f g)

-- one more bit of a quotient
pub bit_fits : (q b i : ℕ) → q < 2 ^ i → b ≤ 1 → i < 128 → 2 * q + b < 2 ^ 128
bit_fits q b i h k l =
    let more : 2 ^ (i + 1) ≤ 2 ^ 128 = pow-le-pow_right {n = 2} (lit≤ tt) {i = i + 1} {j = 128} (omega arith) in
    let twice = pow_more 2 i in
    omega arith

pub bit_below : (q b i : ℕ) → q < 2 ^ i → b ≤ 1 → 2 * q + b < 2 ^ (i + 1)
bit_below q b i h k = let twice = pow_more 2 i in omega arith

bit_more : (m t bits q d left n p b over : ℕ) → bits ≡ t * 2 ^ 127 + m → bits + 2 ^ 128 * (q * d + left) ≡ n * p → t + 2 * left ≡ b * d + over
    → 2 * m + 2 ^ 128 * ((2 * q + b) * d + over) ≡ n * (p * 2)
bit_more m t bits q d left n p b over e f g = omega arith

pub bits_more : (bits q d left n i b over : ℕ) → bits + 2 ^ 128 * (q * d + left) ≡ n * 2 ^ i → bits / 2 ^ 127 + 2 * left ≡ b * d + over
    → 2 * (bits % 2 ^ 127) + 2 ^ 128 * ((2 * q + b) * d + over) ≡ n * 2 ^ (i + 1)
bits_more bits q d left n i b over f g =
    bit_more (bits % 2 ^ 127) (bits / 2 ^ 127) bits q d left n (2 ^ i) b over (omega arith) f g ∙ ap (λ x. n * x) (sym (pow_more 2 i))
