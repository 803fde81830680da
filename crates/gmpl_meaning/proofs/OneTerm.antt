-- A form of one member.
use Rattle.std.proofs.Common.{◌≡◌, ◌∙◌, suc, [], ◌∷◌, length, slice_get, Some, ap, sym, arith}
use Rattle.std.proofs.lemmas.Option.{same_Some}
use Rattle.rational.specs.Rational.{Rational, one_ℚ, zero_ℚ}
use Rattle.gmpl_functions.specs.declared.variable.Variable.{Variable}
use Rattle.gmpl_functions.specs.Linear.{Linear, Terms, linear}

one_term : (terms : Terms) (t : Variable × Rational) → length terms ≡ 1 → Some t ≡ slice_get terms 0 → terms ≡ t ∷ []
one_term [] t one is = absurd (omega arith)
one_term (x ∷ []) t one is = ap (λ y. y ∷ []) (sym (same_Some t x is))
one_term (x ∷ y ∷ xs) t one is = absurd (let two : suc (suc (length xs)) ≡ 1 = one in omega arith)

pub form_of_one : (form : Linear) (v : Variable) (c : Rational) → length form.terms ≡ 1 → form.constant ≡ zero_ℚ → c ≡ one_ℚ → Some (v, c) ≡ slice_get form.terms 0 → form ≡ linear ((v, one_ℚ) ∷ []) zero_ℚ
form_of_one form v c one constant coefficient is =
    let terms = one_term form.terms (v, c) one is ∙ ap (λ q. (v, q) ∷ []) coefficient in
    λ j. linear (terms j) (constant j)
