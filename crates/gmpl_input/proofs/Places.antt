-- What stands behind a token.
use Rattle.std.proofs.Common.{◌≡◌, ◌∙◌, ℕ, zero, suc, ◌+◌, List, [], ◌∷◌, drop, refl, ap, arith}
use Rattle.gmpl_token.specs.Token.{Token}
use Rattle.gmpl_input.specs.Input.{behind}

further : (n : ℕ) (xs : List Token) → behind (drop n xs) ≡ drop (suc n) xs
further zero [] = refl
further zero (x ∷ xs) = refl
further (suc n) [] = refl
further (suc n) (x ∷ xs) = further n xs

pub one_behind : (n : ℕ) (xs : List Token) → behind (drop n xs) ≡ drop (n + 1) xs
one_behind n xs = let one : suc n ≡ n + 1 = omega arith in further n xs ∙ ap (λ k. drop k xs) one
