-- A coefficient that is put in its place, and a list of one member.
use Rattle.std.proofs.Common.{◌≡◌, ◌∙◌, ◌+◌, ℕ, suc, Bool, true, false, cond, not, Option, Ok, [], ◌∷◌, refl, sym, ap, arith}
use Rattle.std.specs.List.{IsDistinct, position_or_len}
use Rattle.std.specs.Map.{keys_of, lookup}
use Rattle.std.specs.Option.{unwrap_or}
use Rattle.indexmap.specs.IndexMap.{insert_entry}
use Rattle.rational.specs.Rational.{Rational, zero_ℚ}
use Rattle.gmpl_value.specs.Outcome.{then_do}
use Rattle.gmpl_functions.specs.declared.terms.Sign.{Sign}
use Rattle.gmpl_functions.specs.declared.variable.Variable.{Variable}
use Rattle.gmpl_functions.specs.Linear.{Terms, coefficient_of, variable_eq}
use Rattle.gmpl_functions.specs.Scalings.{with_value_at}
use Rattle.gmpl_functions.specs.Sums.{operation, put}

abbrev place_in : Variable → Terms → ℕ
place_in k ts = position_or_len (variable_eq k) (keys_of ts)

-- what stands first for a moment is of no account
set_again : (ts : Terms) (k : Variable) (c q : Rational) → with_value_at (insert_entry variable_eq ts k c) (place_in k ts) q ≡ insert_entry variable_eq ts k q
set_again [] k c q = refl
set_again (t ∷ ts) k c q = by (variable_eq k t.0) (set_again ts k c q)
  where
    by : (b : Bool) → with_value_at (insert_entry variable_eq ts k c) (place_in k ts) q ≡ insert_entry variable_eq ts k q
        → with_value_at (cond b ((t.0, c) ∷ ts) (t ∷ insert_entry variable_eq ts k c)) (cond (not b) (1 + place_in k ts) 0) q ≡ cond b ((t.0, q) ∷ ts) (t ∷ insert_entry variable_eq ts k q)
    by true rest = refl
    by false rest =
        let next : 1 + place_in k ts ≡ suc (place_in k ts) = omega arith in
        ap (λ m. with_value_at (t ∷ insert_entry variable_eq ts k c) m q) next ∙ ap (λ (l : Terms). t ∷ l) rest

pub put_at : (sign : Sign) (ts : Terms) (k v : Variable) (place : ℕ) (before : Option Rational) (none found change after : Rational) (more new : Terms)
    → k ≡ v → place ≡ place_in k ts → before ≡ lookup (variable_eq k) ts → none ≡ zero_ℚ → found ≡ unwrap_or before none → operation sign found change ≡ Ok after
    → more ≡ insert_entry variable_eq ts k change → new ≡ with_value_at more place after → put sign ts v change ≡ Ok new
put_at sign ts k v place before none found change after more new same place_is before_is none_is found_is gives more_is new_is =
    let number : found ≡ coefficient_of ts v = found_is ∙ (λ j. unwrap_or (before_is j) (none_is j)) ∙ ap (coefficient_of ts) same in
    let entries : new ≡ insert_entry variable_eq ts v after = new_is ∙ (λ j. with_value_at (more_is j) (place_is j) after) ∙ set_again ts k change after ∙ ap (λ w. insert_entry variable_eq ts w after) same in
    ap (then_do (λ q. Ok (insert_entry variable_eq ts v q))) (ap (λ n. operation sign n change) (sym number) ∙ gives) ∙ ap Ok (sym entries)

pub one_distinct : (v : Variable) → IsDistinct variable_eq (v ∷ [])
unfolding IsDistinct
one_distinct v = (tt, tt)
