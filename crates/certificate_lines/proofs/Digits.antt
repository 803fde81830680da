-- Digits, clipped at the end of counts.
use Rattle.std.proofs.Common.{if◌then◌else◌, length, get_or, drop, drop-cons, add-one, ◌≡◌, ◌∙◌, ℕ, ◌+◌, ◌-◌, ◌*◌, ◌<◌, List, [], ◌∷◌, Option, Some, None, Bool, true, false, min, refl, sym, ap, arith}
use Rattle.std.specs.Option.{option_map}
use Rattle.std.specs.Char.{is_ascii_digit}
use Rattle.fraction.specs.Literal.{digits_on}

abbrev pub clipped : Option ℕ → Option ℕ
clipped o = option_map (min 4294967296) o

chosen : (b : Bool) (o p : Option ℕ) → clipped o ≡ clipped p → clipped (if b then o else None) ≡ clipped (if b then p else None)
chosen true o p h = h
chosen false o p h = refl

pub clipped-digits_on : (n : ℕ) (cs : List ℕ) → clipped (digits_on (min n 4294967296) cs) ≡ clipped (digits_on n cs)
clipped-digits_on n [] = ap (λ (m : ℕ). Some m) (omega arith)
clipped-digits_on n (c ∷ cs) =
    let below = clipped-digits_on (10 * min n 4294967296 + (c - 48)) cs in
    let whole = clipped-digits_on (10 * n + (c - 48)) cs in
    let same : min (10 * min n 4294967296 + (c - 48)) 4294967296 ≡ min (10 * n + (c - 48)) 4294967296 = omega arith in
    chosen (is_ascii_digit c) _ _ (sym below ∙ ap (λ (m : ℕ). clipped (digits_on m cs)) same ∙ whole)

yes : (b : Bool) (o : Option ℕ) → b ≡ true → (if b then o else None) ≡ o
yes true o h = refl
yes false o h = absurd cc

pub clipped_step : (xs : List ℕ) (i n next : ℕ) (total : Option ℕ) → i < length xs → is_ascii_digit (get_or xs i 0) ≡ true → next ≡ min (10 * n + (get_or xs i 0 - 48)) 4294967296 → total ≡ clipped (digits_on n (drop i xs)) → total ≡ clipped (digits_on next (drop (i + 1) xs))
clipped_step xs i n next total lt digit is so_far =
    let split : drop i xs ≡ get_or xs i 0 ∷ drop (i + 1) xs = rw (add-one, drop-cons xs i 0) refl in
    so_far ∙ ap (λ (ys : List ℕ). clipped (digits_on n ys)) split ∙ ap clipped (yes (is_ascii_digit (get_or xs i 0)) (digits_on (10 * n + (get_or xs i 0 - 48)) (drop (i + 1) xs)) digit) ∙ sym (clipped-digits_on (10 * n + (get_or xs i 0 - 48)) (drop (i + 1) xs)) ∙ ap (λ (m : ℕ). clipped (digits_on m (drop (i + 1) xs))) (sym is)
