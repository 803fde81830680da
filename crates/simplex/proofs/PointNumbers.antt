-- Lists of numbers by their places.
use Rattle.std.proofs.Common.{◌≡◌, ◌∙◌, ℕ, zero, suc, ◌+◌, ◌<◌, ◌≤◌, List, [], ◌∷◌, ◌++◌, length, take, refl, sym, ap, arith}
use Rattle.rational.specs.Rational.{Rational}
use Rattle.milp.specs.Form.{number_at}
use Rattle.basis.specs.Weights.{numbers_from}

shifted : (i n : ℕ) (f : ℕ → Rational) → numbers_from (suc i) n f ≡ numbers_from i n (λ j. f (suc j))
shifted i zero f = refl
shifted i (suc n) f = ap (λ rest. f (suc i) ∷ rest) (shifted (suc i) n f)

pub first_numbers : (n : ℕ) (xs : List Rational) → n ≤ length xs → take n xs ≡ numbers_from 0 n (number_at xs)
first_numbers zero xs h = refl
first_numbers (suc n) [] h = absurd (omega arith)
first_numbers (suc n) (x ∷ xs) h = ap (λ rest. x ∷ rest) (first_numbers n xs (omega arith) ∙ sym (shifted 0 n (number_at (x ∷ xs))))

numbers_more : (n i : ℕ) (f : ℕ → Rational) → numbers_from i (suc n) f ≡ numbers_from i n f ++ f (i + n) ∷ []
numbers_more zero i f = let e : i ≡ i + 0 = omega arith in ap (λ m. f m ∷ []) e
numbers_more (suc n) i f = let e : suc i + n ≡ i + suc n = omega arith in ap (λ rest. f i ∷ rest) (numbers_more n (suc i) f ∙ ap (λ m. numbers_from (suc i) n f ++ f m ∷ []) e)

pub one_more_number : (n : ℕ) (f : ℕ → Rational) (old : List Rational) (a : Rational) → old ≡ numbers_from 0 n f → a ≡ f n → old ++ a ∷ [] ≡ numbers_from 0 (n + 1) f
one_more_number n f old a e g =
    let one : n + 1 ≡ suc n = omega arith in
    let at : 0 + n ≡ n = omega arith in
    ap (λ xs. xs ++ a ∷ []) e ∙ ap (λ b. numbers_from 0 n f ++ b ∷ []) g ∙ sym (ap (λ m. numbers_from 0 m f) one ∙ numbers_more n 0 f ∙ ap (λ m. numbers_from 0 n f ++ f m ∷ []) at)

pub numbers_alike : (n i : ℕ) (f g : ℕ → Rational) → ((j : ℕ) → j < i + n → f j ≡ g j) → numbers_from i n f ≡ numbers_from i n g
numbers_alike zero i f g h = refl
numbers_alike (suc n) i f g h = ap (λ a. a ∷ numbers_from (suc i) n f) (h i (omega arith)) ∙ ap (λ rest. g i ∷ rest) (numbers_alike n (suc i) f g (λ j k. h j (omega arith)))
