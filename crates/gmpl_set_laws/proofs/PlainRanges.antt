-- The numbers of a range are without repeats.
use Rattle.std.proofs.Common.{◌≡◌, ◌≢◌, ◌∙◌, ◌≤◌, ◌<◌, ◌∷◌, [], ℕ, zero, suc, ℤ, pos, negsuc, Bool, true, false, cond, List, Result, Ok, Err, length, map, refl, sym, ap, subst, arith, unsigned_abs}
use Rattle.std.proofs.lemmas.List.{length-map}
use Rattle.std.specs.Prelude.{int_lt}
use Rattle.std.specs.List.{IsDistinct, AllByRecursion}
use Rattle.rational.specs.Rational.{Rational, ◌+ℚ◌, ◌≤ℚ◌, floor_ℚ, zero_ℚ}
use Rattle.rational.specs.Compare.{is_less}
use Rattle.rational.proofs.Laws.{add-le-add, add-zero, add_left_cancel, le_antisymm, le_of_lt, le_refl, le_trans, less_false, less_true}
use Rattle.fraction.specs.Fits.{sum_fits}
use Rattle.fraction.specs.Answers.{div_answer, sub_answer}
use Rattle.fraction.specs.declared.frac.Op.TheVariants.{Add}
use Rattle.gmpl_value.specs.declared.fault.SetFault.TheVariants.{TooMany}
use Rattle.std.proofs.lemmas.Bool.Decides.{nat_tests}
use Rattle.gmpl_value.specs.declared.fault.SetFault.{SetFault}
use Rattle.gmpl_value.specs.Follows.{fitting, then_do}
use Rattle.gmpl_value.specs.Range.{counted, number_tuple, progression_of, range_of, steps}
use Rattle.gmpl_value.specs.Sets.{most_elements, set_of}
use Rattle.gmpl_value.specs.SymbolEquality.{tuple_eq}
use Rattle.gmpl_set_laws.proofs.PlainLists.{set_of_distinct, within_limit}
use Rattle.gmpl_set_laws.proofs.SameTuples.{same_tuple}

same_number : (p q : Rational) → tuple_eq (number_tuple p) (number_tuple q) ≡ true → p ≡ q
same_number p q h = let same : number_tuple p ≡ number_tuple q = same_tuple (number_tuple p) (number_tuple q) h in cc

abbrev numbers_of : List Rational → Result (List Rational) SetFault
numbers_of ns = Ok ns

same_value : {a b : List Rational} → Ok a ≡ numbers_of b → a ≡ b
same_value e = cc

-- one more step that fits, and what comes of the rest
record Stepped (n : ℕ) (q by : Rational) (numbers : List Rational) : Type 0 where
  more : List Rational
  rest : steps n (q +ℚ by) by ≡ Ok more
  is : numbers ≡ q ∷ more

stepped : (n : ℕ) (q by : Rational) (numbers : List Rational) → steps (suc n) q by ≡ Ok numbers → Stepped n q by numbers
stepped n q by numbers h = fits (sum_fits q by) h
  where
    rest_of : (answer : Result (List Rational) SetFault) → steps n (q +ℚ by) by ≡ answer → then_do (λ more. Ok (q ∷ more)) answer ≡ Ok numbers → Stepped n q by numbers
    rest_of (Err f) e g = absurd cc
    rest_of (Ok more) e g = record { more = more; rest = e; is = sym (same_value g) }

    fits : (b : Bool) → then_do (λ next. then_do (λ more. Ok (q ∷ more)) (steps n next by)) (fitting (cond b (Ok (q +ℚ by)) (Err (record { a = q; op = Add; b = by })))) ≡ Ok numbers → Stepped n q by numbers
    fits true g = rest_of (steps n (q +ℚ by) by) refl g
    fits false g = absurd cc

count_of : (n : ℕ) (q by : Rational) (numbers : List Rational) → steps n q by ≡ Ok numbers → length numbers ≡ suc n
count_of zero q by numbers h = ap length (sym (same_value h))
count_of (suc n) q by numbers h =
    let s = stepped n q by numbers h in
    ap length s.is ∙ ap suc (count_of n (q +ℚ by) by s.more s.rest)

-- in an order in which each step rises, or each falls
module _ (le : Rational → Rational → Type 0) (same : (p : Rational) → le p p) (on : (p q r : Rational) → le p q → le q r → le p r) (equal : (p q : Rational) → le p q → le q p → p ≡ q) (by : Rational) (other : by ≡ zero_ℚ → ⊥) (step : (p : Rational) → le p (p +ℚ by)) where
  all_from : (n : ℕ) (q : Rational) (numbers : List Rational) → steps n q by ≡ Ok numbers → AllByRecursion (le q) numbers
  all_from zero q numbers h = subst (AllByRecursion (le q)) (same_value h) (same q, tt)
  all_from (suc n) q numbers h =
      let s = stepped n q by numbers h in
      subst (AllByRecursion (le q)) (sym s.is) (same q, raised q (q +ℚ by) (step q) s.more (all_from n (q +ℚ by) s.more s.rest))
    where
      raised : (a b : Rational) → le a b → (rs : List Rational) → AllByRecursion (le b) rs → AllByRecursion (le a) rs
      raised a b h [] all = tt
      raised a b h (r ∷ rs) all = (on a b r h all.0, raised a b h rs all.1)

  apart : (q r : Rational) → le (q +ℚ by) r → tuple_eq (number_tuple q) (number_tuple r) ≡ false
  apart q r h = decide (tuple_eq (number_tuple q) (number_tuple r)) refl
    where
      decide : (b : Bool) → tuple_eq (number_tuple q) (number_tuple r) ≡ b → b ≡ false
      decide false e = refl
      decide true e =
          let is : q ≡ r = same_number q r e in
          let back : le (q +ℚ by) q = subst (le (q +ℚ by)) (sym is) h in
          let nothing : q +ℚ by ≡ q +ℚ zero_ℚ = equal (q +ℚ by) q back (step q) ∙ sym (add-zero q) in
          absurd (other (add_left_cancel q by zero_ℚ nothing))

  all_apart : (q : Rational) (rs : List Rational) → AllByRecursion (le (q +ℚ by)) rs → AllByRecursion (λ y. tuple_eq (number_tuple q) y ≡ false) (map number_tuple rs)
  all_apart q [] all = tt
  all_apart q (r ∷ rs) all = (apart q r all.0, all_apart q rs all.1)

  pub steps_distinct : (n : ℕ) (q : Rational) (numbers : List Rational) → steps n q by ≡ Ok numbers → IsDistinct tuple_eq (map number_tuple numbers)
  unfolding IsDistinct
  steps_distinct zero q numbers h = subst (λ ns. IsDistinct tuple_eq (map number_tuple ns)) (same_value h) (tt, tt)
  steps_distinct (suc n) q numbers h =
      let s = stepped n q by numbers h in
      subst (λ ns. IsDistinct tuple_eq (map number_tuple ns)) (sym s.is) (all_apart q s.more (all_from n (q +ℚ by) s.more s.rest), steps_distinct n (q +ℚ by) s.more s.rest)

distinct_numbers : (by : Rational) → (by ≡ zero_ℚ → ⊥) → (n : ℕ) (q : Rational) (numbers : List Rational) → steps n q by ≡ Ok numbers → IsDistinct tuple_eq (map number_tuple numbers)
distinct_numbers by other n q numbers h = sides (is_less by zero_ℚ) refl
  where
    sides : (b : Bool) → is_less by zero_ℚ ≡ b → IsDistinct tuple_eq (map number_tuple numbers)
    sides true e =
        let below = le_of_lt by zero_ℚ (less_true by zero_ℚ e) in
        steps_distinct (λ a b. b ≤ℚ a) le_refl (λ p q r f g. le_trans r q p g f) (λ p q f g. le_antisymm p q g f) by other
        (λ p. subst (λ x. p +ℚ by ≤ℚ x) (add-zero p) (add-le-add p p by zero_ℚ (le_refl p) below)) n q numbers h
    sides false e =
        let above = less_false by zero_ℚ e in
        steps_distinct (λ a b. a ≤ℚ b) le_refl le_trans le_antisymm by other
        (λ p. subst (λ x. x ≤ℚ p +ℚ by) (add-zero p) (add-le-add p p zero_ℚ by (le_refl p) above)) n q numbers h

steps_plain : (by : Rational) → (by ≡ zero_ℚ → ⊥) → (n : ℕ) (q : Rational) → n < most_elements → then_do (λ numbers. set_of (map number_tuple numbers)) (steps n q by) ≡ then_do (λ numbers. Ok (map number_tuple numbers)) (steps n q by)
steps_plain by other n q few = of (steps n q by) refl
  where
    of : (answer : Result (List Rational) SetFault) → steps n q by ≡ answer → then_do (λ numbers. set_of (map number_tuple numbers)) answer ≡ then_do (λ numbers. Ok (map number_tuple numbers)) answer
    of (Err f) e = refl
    of (Ok numbers) e =
        let tuples = map number_tuple numbers in
        let count : length tuples ≡ suc n = length-map numbers number_tuple ∙ count_of n q by numbers e in
        let within : length tuples ≤ most_elements = omega (arith, few, count) in
        set_of_distinct tuples (distinct_numbers by other n q numbers e) ∙ within_limit (length tuples) tuples within

counted_plain : (last : ℤ) (from by : Rational) → (by ≡ zero_ℚ → ⊥) → then_do (λ numbers. set_of (map number_tuple numbers)) (counted last from by) ≡ then_do (λ numbers. Ok (map number_tuple numbers)) (counted last from by)
counted_plain last from by other = tests (int_lt last (pos 0)) (int_lt last (pos most_elements)) refl refl
  where
    tests : (a b : Bool) → int_lt last (pos 0) ≡ a → int_lt last (pos most_elements) ≡ b
        → then_do (λ numbers. set_of (map number_tuple numbers)) (cond a (Ok []) (cond b (steps (unsigned_abs last) from by) (Err TooMany))) ≡ then_do (λ numbers. Ok (map number_tuple numbers)) (cond a (Ok []) (cond b (steps (unsigned_abs last) from by) (Err TooMany)))
    tests true b e g = refl
    tests false false e g = refl
    tests false true e g = steps_plain by other (unsigned_abs last) from (few last e g)
      where
        few : (z : ℤ) → int_lt z (pos 0) ≡ false → int_lt z (pos most_elements) ≡ true → unsigned_abs z < most_elements
        few (pos n) e g = grind (arith, nat_tests)
        few (negsuc n) e g = absurd cc

pub range_plain : (from to by : Rational) → by.numerator ≢ pos 0 → range_of from to by ≡ then_do (λ numbers. Ok (map number_tuple numbers)) (progression_of from to by)
range_plain from to by nonzero = distance (fitting (sub_answer to from))
  where
    other : by ≡ zero_ℚ → ⊥
    other e = nonzero (ap (λ (q : Rational). q.numerator) e)

    quotient : (answer : Result Rational SetFault) → then_do (λ numbers. set_of (map number_tuple numbers)) (then_do (λ q. counted (floor_ℚ q) from by) answer) ≡ then_do (λ numbers. Ok (map number_tuple numbers)) (then_do (λ q. counted (floor_ℚ q) from by) answer)
    quotient (Err f) = refl
    quotient (Ok q) = counted_plain (floor_ℚ q) from by other

    distance : (answer : Result Rational SetFault) → then_do (λ numbers. set_of (map number_tuple numbers)) (then_do (λ d. then_do (λ q. counted (floor_ℚ q) from by) (fitting (div_answer d by))) answer)
        ≡ then_do (λ numbers. Ok (map number_tuple numbers)) (then_do (λ d. then_do (λ q. counted (floor_ℚ q) from by) (fitting (div_answer d by))) answer)
    distance (Err f) = refl
    distance (Ok d) = quotient (fitting (div_answer d by))
