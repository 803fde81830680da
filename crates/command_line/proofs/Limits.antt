-- The limit that a word of digits gives.
use Rattle.std.proofs.Common.{◌≡◌, ◌∙◌, ℕ, ◌<◌, ◌≤◌, ◌^◌, ◌&&◌, true, List, [], ◌∷◌, length, None, Result, refl, sym, ap, arith}
use Rattle.std.specs.Prelude.{Ok, Err}
use Rattle.std.specs.Char.{is_ascii_digit}
use Rattle.std.specs.List.{list_all}
use Rattle.std.specs.Str.{all_ascii_digits}
use Rattle.std.specs.Str.Parse.{digits_value, ParsesUnsigned}
use Rattle.std.proofs.lemmas.Str.Parse.{numerals_by_value, tells_all_ascii_digits, parse_gives}
use Rattle.std.proofs.lemmas.Bool.Decides.{nat_tests}
use Rattle.command_line.specs.Meaning.{is_numeral, limit_within}

same_test : (ds : List ℕ) → list_all is_ascii_digit ds ≡ all_ascii_digits ds
same_test [] = refl
same_test (c ∷ cs) = ap (λ t. is_ascii_digit c && t) (same_test cs)

out_of_limits : (least greatest n : ℕ) → (least ≤ n → n ≤ greatest → ⊥) → None ≡ limit_within least greatest n
out_of_limits least greatest n outside = grind (arith, nat_tests, outside)

some_digits : (ds : List ℕ) → is_numeral ds ≡ true → 0 < length ds
some_digits [] h = absurd cc
some_digits (c ∷ cs) h = omega arith

all_digits : (ds : List ℕ) → is_numeral ds ≡ true → list_all is_ascii_digit ds ≡ true
all_digits [] h = absurd cc
all_digits (c ∷ cs) h = h

-- digits that are no number of 32 bits give no limit
pub no_limit : {E : Type 0} (least greatest : ℕ) (word : List ℕ) (r : Result ℕ E) (e : E) → greatest < 2 ^ 32 → is_numeral word ≡ true → ParsesUnsigned 32 10 word r → r ≡ Err e
    → None ≡ limit_within least greatest (digits_value 10 word)
no_limit least greatest word r e narrow digits parses failed = out_of_limits least greatest (digits_value 10 word) none
  where
    differ : {E : Type 0} (n : ℕ) (e : E) → ◌≡◌ {A = Result ℕ E} (Ok n) (Err e) → ⊥
    differ n e same = cc

    none : least ≤ digits_value 10 word → digits_value 10 word ≤ greatest → ⊥
    none some small = differ (digits_value 10 word) e (sym (parse_gives (numerals_by_value (λ ds. all_ascii_digits ds ≡ true) tells_all_ascii_digits) 32 word r parses (sym (same_test word) ∙ all_digits word digits) (some_digits word digits) (omega (arith, small, narrow))) ∙ failed)
