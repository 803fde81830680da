-- Tests of bounds against those of splits.
use Rattle.std.proofs.Common.{◌≡◌, ◌∙◌, true, false, Bool, if◌then◌else◌, Option, Some, None, refl, sym, arith}
use Rattle.std.specs.Prelude.{ℤ, pos, ◌+ℤ◌, ◌*ℤ◌, int_le, ◌≤ℤ◌, ◌<ℤ◌}
use Rattle.std.proofs.lemmas.Int.{ints}
use Rattle.rational.specs.Rational.{Rational, ◌≤ℚ◌, ◌<ℚ◌, whole}
use Rattle.rational.specs.Compare.{is_less, is_at_most}
use Rattle.rational.proofs.Laws as Q
use Rattle.rational.proofs.Laws.{less_true, less_false, at_most_true, at_most_false, true_less, false_less}
use Rattle.verdicts.specs.Proves.{greater, lesser}
use Rattle.verdicts.specs.Migrated.{raises, lowers}
use Rattle.certificate.specs.declared.split.Side.{Side}
use Rattle.certificate.specs.declared.split.Side.TheVariants.{Low, High}
use Rattle.migration.specs.Sources.{tightens, is_as_tight}

-- ---- whole numbers

whole_le : (n m : ℤ) → int_le n m ≡ true → whole n ≤ℚ whole m
whole_le n m h = record { cross = parts n m (grind (arith, ints)) }
  where
    parts : (n m : ℤ) → n ≤ℤ m → (n *ℤ pos 1) ≤ℤ (m *ℤ pos 1)
    parts n m h = omega (arith, ints)

whole_lt : (n m : ℤ) → int_le m n ≡ false → whole n <ℚ whole m
whole_lt n m h = record { cross = parts n m (grind (arith, ints)) }
  where
    parts : (n m : ℤ) → n <ℤ m → (n *ℤ pos 1) <ℤ (m *ℤ pos 1)
    parts n m h = omega (arith, ints)

next_le : (n m : ℤ) → int_le n m ≡ true → whole (n +ℤ pos 1) ≤ℚ whole (m +ℤ pos 1)
next_le n m h = whole_le (n +ℤ pos 1) (m +ℤ pos 1) (grind (arith, ints))

next_lt : (n m : ℤ) → int_le m n ≡ false → whole (n +ℤ pos 1) <ℚ whole (m +ℤ pos 1)
next_lt n m h = whole_lt (n +ℤ pos 1) (m +ℤ pos 1) (grind (arith, ints))

-- ---- lower bounds

greater_above : (o : Option Rational) (b : Rational) → b ≤ℚ greater o b
greater_above None b = Q.le_refl b
greater_above (Some a) b = go (is_at_most a b) refl
  where
    go : (t : Bool) → is_at_most a b ≡ t → b ≤ℚ (if t then b else a)
    go true e = Q.le_refl b
    go false e = Q.le_of_lt b a (at_most_false a b e)

lower_covers : (o : Option Rational) (b f : Rational) → f ≤ℚ b → raises (Some (greater o b)) f ≡ false
lower_covers o b f h = false_less (greater o b) f (Q.le_trans _ _ _ h (greater_above o b))

raised_by : (o : Option Rational) (b f : Rational) → b <ℚ f → raises (Some (greater o b)) f ≡ raises o f
raised_by None b f h = true_less b f h
raised_by (Some a) b f h = go (is_at_most a b) refl
  where
    below : (c : Rational) → c ≤ℚ b → is_less c f ≡ true
    below c k = false_not (is_less c f) refl
      where
        false_not : (t : Bool) → is_less c f ≡ t → is_less c f ≡ true
        false_not true e = e
        false_not false e = absurd (Q.lt-not-le b f h (Q.le_trans f c b (less_false c f e) k))

    go : (t : Bool) → is_at_most a b ≡ t → is_less (if t then b else a) f ≡ is_less a f
    go true e = below b (Q.le_refl b) ∙ sym (below a (at_most_true a b e))
    go false e = refl

no_raise : (o : Option Rational) (b f : Rational) → b <ℚ f → raises o f ≡ false → raises o b ≡ false
no_raise None b f h e = cc
no_raise (Some a) b f h e = false_less a b (Q.le_trans _ _ _ (Q.le_of_lt b f h) (less_false a f e))

-- ---- upper bounds

lesser_below : (o : Option Rational) (b : Rational) → lesser o b ≤ℚ b
lesser_below None b = Q.le_refl b
lesser_below (Some a) b = go (is_at_most a b) refl
  where
    go : (t : Bool) → is_at_most a b ≡ t → (if t then a else b) ≤ℚ b
    go true e = at_most_true a b e
    go false e = Q.le_refl b

upper_covers : (o : Option Rational) (b f : Rational) → b ≤ℚ f → lowers (Some (lesser o b)) f ≡ false
upper_covers o b f h = false_less f (lesser o b) (Q.le_trans _ _ _ (lesser_below o b) h)

lowered_by : (o : Option Rational) (b f : Rational) → f <ℚ b → lowers (Some (lesser o b)) f ≡ lowers o f
lowered_by None b f h = true_less f b h
lowered_by (Some a) b f h = go (is_at_most a b) refl
  where
    above : (c : Rational) → b ≤ℚ c → is_less f c ≡ true
    above c k = false_not (is_less f c) refl
      where
        false_not : (t : Bool) → is_less f c ≡ t → is_less f c ≡ true
        false_not true e = e
        false_not false e = absurd (Q.lt-not-le f b h (Q.le_trans b c f k (less_false f c e)))

    go : (t : Bool) → is_at_most a b ≡ t → is_less f (if t then a else b) ≡ is_less f a
    go true e = refl
    go false e = above b (Q.le_refl b) ∙ sym (above a (Q.le_of_lt b a (at_most_false a b e)))

no_lower : (o : Option Rational) (b f : Rational) → f <ℚ b → lowers o f ≡ false → lowers o b ≡ false
no_lower None b f h e = cc
no_lower (Some a) b f h e = false_less b a (Q.le_trans _ _ _ (less_false f a e) (Q.le_of_lt f b h))

-- ---- either

-- a bound that a split has narrowed
abbrev pub narrowed_by : Side → Option Rational → ℤ → Rational
narrowed_by High o at = greater o (whole (at +ℤ pos 1))
narrowed_by Low o at = lesser o (whole at)

-- a split that is no tighter doesn't narrow it further
pub covers : (side : Side) (o : Option Rational) (at other : ℤ) → is_as_tight side at other ≡ true → tightens side (Some (narrowed_by side o at)) other ≡ false
covers High o at other h = lower_covers o (whole (at +ℤ pos 1)) (whole (other +ℤ pos 1)) (next_le other at h)
covers Low o at other h = upper_covers o (whole at) (whole other) (whole_le at other h)

-- one that is tighter does, where it narrows the bound before
pub tightened : (side : Side) (o : Option Rational) (at other : ℤ) → is_as_tight side at other ≡ false → tightens side (Some (narrowed_by side o at)) other ≡ tightens side o other
tightened High o at other h = raised_by o (whole (at +ℤ pos 1)) (whole (other +ℤ pos 1)) (next_lt at other h)
tightened Low o at other h = lowered_by o (whole at) (whole other) (whole_lt other at h)

-- and where it doesn't, the other doesn't either
pub neither : (side : Side) (o : Option Rational) (at other : ℤ) → is_as_tight side at other ≡ false → tightens side o other ≡ false → tightens side o at ≡ false
neither High o at other h e = no_raise o (whole (at +ℤ pos 1)) (whole (other +ℤ pos 1)) (next_lt at other h) e
neither Low o at other h e = no_lower o (whole at) (whole other) (whole_lt other at h) e
