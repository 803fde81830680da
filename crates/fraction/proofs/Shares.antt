-- Sums of 1 over two denominators, which do not fit where their common denominator does not.
use Rattle.std.proofs.Common.{◌≡◌, ◌∙◌, ℕ, zero, suc, ◌+◌, ◌*◌, ◌/◌, ◌<◌, ◌≤◌, ◌&&◌, nat_le, Bool, true, false, List, [], ◌∷◌, length, take, get_or, mul-pos, refl, sym, ap, subst, arith, Option, Some, None, slice_get, inl}
use Rattle.std.specs.Prelude.{pos, ◌+ℤ◌, Result, Ok, Err, SomeIff, IfErr, IsErrAnd}
use Rattle.std.proofs.lemmas.Option.{slice_get_read, same_Some}
use Rattle.std.proofs.lemmas.Bool.Decides.{nat_tests}
use Rattle.integer.specs.Gcd.{gcd}
use Rattle.integer.specs.Lowest.{IsLowest}
use Rattle.rational.specs.Rational.{Rational, over}
use Rattle.fraction.specs.Fits.{part_max, num_fits, den_fits, common_den, left_num, right_num}
use Rattle.fraction.proofs.FracLemmas.{over-denominator, quot_some}
use Rattle.fraction.proofs.CmpLemmas.{one_of}
use Rattle.rational.specs.Denominators.{common_denominator, prefix_denominator}
use Rattle.fraction.specs.declared.frac.Op.TheVariants.{Add}
use Rattle.fraction.specs.declared.frac.NoFit.{NoFit}
use Rattle.fraction.specs.Denominators.{IsShareFault, IsDenominatorFault}

pub lowest_share : (m : ℕ) → 0 < m → IsLowest (pos 1) m
lowest_share m h = record { positive = h; coprime = sym (one_of 1 m (inl refl)) }

past : (a b : ℕ) → ¬ (a ≤ b) → nat_le a b ≡ false
past a b n = grind (arith, nat_tests)

third_false : (x y z u : Bool) → z ≡ false → (x && (y && (z && u))) ≡ false
third_false false y z u e = refl
third_false true false z u e = refl
third_false true true z u e = rw e refl

pub share_fault : (m d n : ℕ) (o : Option ℕ) (a b : Rational) → 0 < m → 0 < d → n ≡ d / gcd m d → SomeIff o (m * n ≤ part_max) (m * n) → o ≡ None → a ≡ over (pos 1) m → b ≡ over (pos 1) d → IsShareFault m d (record { a = a; op = Add; b = b })
share_fault m d n o a b h k is made none left right = record { left = left; right = right; not_fit = rw (left, right) (third_false (num_fits (left_num x y)) (num_fits (right_num x y)) (den_fits (common_den x y)) (num_fits (left_num x y +ℤ right_num x y)) (past (common_den x y) part_max wide)) }
  where
    x : Rational
    x = over (pos 1) m

    y : Rational
    y = over (pos 1) d

    common : common_den x y ≡ m * (d / gcd m d)
    common = rw (over-denominator (pos 1) m (lowest_share m h), over-denominator (pos 1) d (lowest_share d k)) refl

    never : (o : Option ℕ) → SomeIff o (m * n ≤ part_max) (m * n) → o ≡ None → ¬ (m * n ≤ part_max)
    never None w e = w
    never (Some v) w e = absurd (clash e)
      where
        clash : ¬ (Some v ≡ None)
        clash z = cc

    wide : ¬ (common_den x y ≤ part_max)
    wide l = never o made none (let P : ℕ → Type 0 = λ t. m * t ≤ part_max in subst P (sym is) (subst (λ t. t ≤ part_max) common l))

pub multiple_some : (m d : ℕ) → 0 < m → 0 < d → 0 < m * (d / gcd m d)
multiple_some m d h k = mul-pos h (quot_some m d k)

-- ---- one number more

common_more : (m : ℕ) (numbers : List Rational) (i : ℕ) (a : Rational) → slice_get numbers i ≡ Some a
    → common_denominator m (take (suc i) numbers) ≡ common_denominator m (take i numbers) * (a.denominator / gcd (common_denominator m (take i numbers)) a.denominator)
common_more m [] i a e = absurd (none_some e)
  where
    none_some : ¬ (None ≡ Some a)
    none_some k = cc
common_more m (b ∷ numbers) zero a e = ap (λ (c : Rational). m * (c.denominator / gcd m c.denominator)) (same_Some b a e)
common_more m (b ∷ numbers) (suc i) a e = common_more (m * (b.denominator / gcd m b.denominator)) numbers i a e

pub one_more_denominator : (numbers : List Rational) (i : ℕ) (a : Rational) (old d new : ℕ) → slice_get numbers i ≡ Some a → old ≡ prefix_denominator numbers i → d ≡ a.denominator → new ≡ old * (d / gcd old d) → new ≡ prefix_denominator numbers (i + 1)
one_more_denominator numbers i a old d new is e f g =
    let one : suc i ≡ i + 1 = omega arith in
    g ∙ rw (e, f) (sym (common_more 1 numbers i a is)) ∙ ap (prefix_denominator numbers) one

pub denominator_fault : (numbers : List Rational) (i : ℕ) (a : Rational) (old d : ℕ) (f : NoFit) → slice_get numbers i ≡ Some a → old ≡ prefix_denominator numbers i → d ≡ a.denominator → IsShareFault old d f → IsDenominatorFault numbers f
denominator_fault numbers i a old d f is e g h = record { index = i; number = a; is_number = is; fault = subst (λ n. IsShareFault (prefix_denominator numbers i) n f) g (subst (λ m. IsShareFault m d f) e h) }

pub number_read : (numbers : List Rational) (i : ℕ) (a : Rational) → i < length numbers → a ≡ get_or numbers i a → slice_get numbers i ≡ Some a
number_read numbers i a h e = slice_get_read numbers (length numbers) i a refl h e

pub fault_kept : {X : Type 0} (r : Result X NoFit) (e : NoFit) (P : NoFit → Type 0) → IsErrAnd r (λ d. d ≡ e) → P e → IfErr r P
fault_kept (Ok u) e P h p = tt
fault_kept (Err d) e P h p = subst P (sym h) p
