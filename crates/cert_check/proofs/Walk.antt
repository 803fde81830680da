-- The walk over the turns on the way to a node finds the bounds there.
use Rattle.std.proofs.Common.{◌≡◌, ◌∙◌, ℕ, Bool, true, false, if◌then◌else◌, List, [], ◌∷◌, Option, Some, None, Result, Ok, Err, refl, sym, ap}
use Rattle.rational.specs.Rational.{Rational, ◌≤ℚ◌, whole}
use Rattle.rational.proofs.Laws as Q
use Rattle.fraction.specs.declared.frac.NoFit.{NoFit}
use Rattle.instance.specs.Sums.{and_then}
use Rattle.milp.specs.Problem.{Problem}
use Rattle.verdicts.specs.Certificate.{Side, Low, High}
use Rattle.rational.specs.Compare.{is_at_most}
use Rattle.verdicts.specs.Proves.{narrows, greater, lesser, lower_under, upper_under}
use Rattle.rational.proofs.Laws.{at_most_true, at_most_false}
use Rattle.cert_check.specs.Sums.{lower_answer, next_answer}
use Rattle.cert_check.specs.Walk.{found_lower, found_upper, merged_lower, merged_upper, merged_answer}

-- ---- the greater of two numbers

larger : Rational → Rational → Rational
larger a b = if is_at_most a b then b else a

left_le : (a b : Rational) → a ≤ℚ larger a b
unfolding larger
left_le a b = go (is_at_most a b) refl
  where
    go : (t : Bool) → is_at_most a b ≡ t → a ≤ℚ (if t then b else a)
    go true e = at_most_true a b e
    go false e = Q.le_refl a

right_le : (a b : Rational) → b ≤ℚ larger a b
unfolding larger
right_le a b = go (is_at_most a b) refl
  where
    go : (t : Bool) → is_at_most a b ≡ t → b ≤ℚ (if t then b else a)
    go true e = Q.le_refl b
    go false e = Q.le_of_lt b a (at_most_false a b e)

larger_le : (a b c : Rational) → a ≤ℚ c → b ≤ℚ c → larger a b ≤ℚ c
unfolding larger
larger_le a b c h k = go (is_at_most a b)
  where
    go : (t : Bool) → (if t then b else a) ≤ℚ c
    go true = k
    go false = h

larger_comm : (a b : Rational) → larger a b ≡ larger b a
larger_comm a b = Q.le_antisymm _ _ (larger_le a b _ (right_le b a) (left_le b a)) (larger_le b a _ (right_le a b) (left_le a b))

larger_turn : (r b a : Rational) → larger (larger r b) a ≡ larger r (larger a b)
larger_turn r b a = Q.le_antisymm _ _
    (larger_le (larger r b) a _ (larger_le r b _ (left_le r _) (Q.le_trans _ _ _ (right_le a b) (right_le r _))) (Q.le_trans _ _ _ (left_le a b) (right_le r _)))
    (larger_le r (larger a b) _ (Q.le_trans _ _ _ (left_le r b) (left_le _ a)) (larger_le a b _ (right_le _ a) (Q.le_trans _ _ _ (right_le r b) (left_le _ a))))

lower_step : (found rest : Option Rational) (b : Rational) → merged_lower found (Some (greater rest b)) ≡ merged_lower (Some (greater found b)) rest
unfolding larger
lower_step None None b = refl
lower_step None (Some r) b = refl
lower_step (Some a) None b = ap Some (larger_comm b a)
lower_step (Some a) (Some r) b = ap Some (larger_turn r b a)

-- ---- the lesser of two numbers

smaller : Rational → Rational → Rational
smaller a b = if is_at_most a b then a else b

le_left : (a b : Rational) → smaller a b ≤ℚ a
unfolding smaller
le_left a b = go (is_at_most a b) refl
  where
    go : (t : Bool) → is_at_most a b ≡ t → (if t then a else b) ≤ℚ a
    go true e = Q.le_refl a
    go false e = Q.le_of_lt b a (at_most_false a b e)

le_right : (a b : Rational) → smaller a b ≤ℚ b
unfolding smaller
le_right a b = go (is_at_most a b) refl
  where
    go : (t : Bool) → is_at_most a b ≡ t → (if t then a else b) ≤ℚ b
    go true e = at_most_true a b e
    go false e = Q.le_refl b

le_smaller : (a b c : Rational) → c ≤ℚ a → c ≤ℚ b → c ≤ℚ smaller a b
unfolding smaller
le_smaller a b c h k = go (is_at_most a b)
  where
    go : (t : Bool) → c ≤ℚ (if t then a else b)
    go true = h
    go false = k

smaller_comm : (a b : Rational) → smaller a b ≡ smaller b a
smaller_comm a b = Q.le_antisymm _ _ (le_smaller b a _ (le_right a b) (le_left a b)) (le_smaller a b _ (le_right b a) (le_left b a))

smaller_turn : (r b a : Rational) → smaller (smaller r b) a ≡ smaller r (smaller a b)
smaller_turn r b a = Q.le_antisymm _ _
    (le_smaller r (smaller a b) _ (Q.le_trans _ _ _ (le_left _ a) (le_left r b)) (le_smaller a b _ (le_right _ a) (Q.le_trans _ _ _ (le_left _ a) (le_right r b))))
    (le_smaller (smaller r b) a _ (le_smaller r b _ (le_left r _) (Q.le_trans _ _ _ (le_right r _) (le_right a b))) (Q.le_trans _ _ _ (le_right r _) (le_left a b)))

upper_step : (found rest : Option Rational) (b : Rational) → merged_upper found (Some (lesser rest b)) ≡ merged_upper (Some (lesser found b)) rest
unfolding smaller
upper_step None None b = refl
upper_step None (Some r) b = refl
upper_step (Some a) None b = ap Some (smaller_comm b a)
upper_step (Some a) (Some r) b = ap Some (smaller_turn r b a)

-- ---- one turn

lower_turn : (p : Problem) (side : Side) (sides : List Side) (j : ℕ) (found : Option Rational) → merged_answer found (lower_answer p (side ∷ sides) j) ≡ and_then (found_lower found side j) (λ f. merged_answer f (lower_answer p sides j))
lower_turn p (Low s) sides j found = refl
lower_turn p (High s) sides j found = go (narrows s j)
  where
    rest : Result (Option Rational) NoFit
    rest = lower_answer p sides j

    merged : (b : Rational) (r : Result (Option Rational) NoFit) → merged_answer found (and_then r (λ o. Ok (Some (greater o b)))) ≡ merged_answer (Some (greater found b)) r
    merged b (Ok o) = ap Ok (lower_step found o b)
    merged b (Err e) = refl

    next : (n : Result Rational NoFit) (r : Result (Option Rational) NoFit) → merged_answer found (and_then n (λ b. and_then r (λ o. Ok (Some (greater o b))))) ≡ and_then (and_then n (λ b. Ok (Some (greater found b)))) (λ f. merged_answer f r)
    next (Ok b) r = merged b r
    next (Err e) r = refl

    go : (t : Bool) → merged_answer found (if t then and_then (next_answer s.at) (λ b. and_then (lower_answer p sides j) (λ o. Ok (Some (greater o b)))) else lower_answer p sides j) ≡ and_then (if t then and_then (next_answer s.at) (λ b. Ok (Some (greater found b))) else Ok found) (λ f. merged_answer f (lower_answer p sides j))
    go true = next (next_answer s.at) (lower_answer p sides j)
    go false = refl

upper_turn : (p : Problem) (side : Side) (sides : List Side) (j : ℕ) (found : Option Rational) → merged_upper found (upper_under p (side ∷ sides) j) ≡ merged_upper (found_upper found side j) (upper_under p sides j)
upper_turn p (High s) sides j found = refl
upper_turn p (Low s) sides j found = go (narrows s j)
  where
    go : (t : Bool) → merged_upper found (if t then Some (lesser (upper_under p sides j) (whole s.at)) else upper_under p sides j) ≡ merged_upper (if t then Some (lesser found (whole s.at)) else found) (upper_under p sides j)
    go true = upper_step found (upper_under p sides j) (whole s.at)
    go false = refl

pub lower_more : (p : Problem) (side : Side) (here sides : List Side) (j : ℕ) (found f : Option Rational) (all : Result (Option Rational) NoFit) → here ≡ side ∷ sides → Ok f ≡ found_lower found side j → merged_answer found (lower_answer p here j) ≡ all → merged_answer f (lower_answer p sides j) ≡ all
lower_more p side here sides j found f all is e inv = ap (λ r. and_then r (λ f. merged_answer f (lower_answer p sides j))) e ∙ sym (lower_turn p side sides j found) ∙ (rw is at inv)

pub upper_more : (p : Problem) (side : Side) (here sides : List Side) (j : ℕ) (found f : Option Rational) (all : Option Rational) → here ≡ side ∷ sides → f ≡ found_upper found side j → merged_upper found (upper_under p here j) ≡ all → merged_upper f (upper_under p sides j) ≡ all
upper_more p side here sides j found f all is e inv = ap (λ f. merged_upper f (upper_under p sides j)) e ∙ sym (upper_turn p side sides j found) ∙ (rw is at inv)

-- ---- the walk on, from the root

lower_both : (one found rest : Option Rational) → merged_lower one (merged_lower found rest) ≡ merged_lower (merged_lower one found) rest
unfolding larger
lower_both None found rest = refl
lower_both (Some b) None rest = refl
lower_both (Some b) (Some a) None = refl
lower_both (Some b) (Some a) (Some r) = ap Some (larger_turn r a b ∙ ap (larger r) (larger_comm b a))

upper_both : (one found rest : Option Rational) → merged_upper one (merged_upper found rest) ≡ merged_upper (merged_upper one found) rest
unfolding smaller
upper_both None found rest = refl
upper_both (Some b) None rest = refl
upper_both (Some b) (Some a) None = refl
upper_both (Some b) (Some a) (Some r) = ap Some (smaller_turn r a b ∙ ap (smaller r) (smaller_comm b a))

none_found : (r : Result (Option Rational) NoFit) → merged_answer None r ≡ r
none_found (Ok o) = refl
none_found (Err e) = refl

-- one more turn, the latest
pub lower_later : (p : Problem) (side : Side) (sides here : List Side) (j : ℕ) (found one new : Option Rational) → here ≡ side ∷ sides → found_lower None side j ≡ Ok one → new ≡ merged_lower one found
    → lower_answer p sides j ≡ Ok (merged_lower found (lower_under p [] j)) → lower_answer p here j ≡ Ok (merged_lower new (lower_under p [] j))
lower_later p side sides here j found one new is e f inv =
    ap (λ l. lower_answer p l j) is ∙ sym (none_found _) ∙ lower_turn p side sides j None
    ∙ ap (λ r. and_then r (λ f. merged_answer f (lower_answer p sides j))) e ∙ ap (merged_answer one) inv
    ∙ ap Ok (lower_both one found (lower_under p [] j) ∙ ap (λ n. merged_lower n (lower_under p [] j)) (sym f))

pub upper_later : (p : Problem) (side : Side) (sides here : List Side) (j : ℕ) (found one new : Option Rational) → here ≡ side ∷ sides → one ≡ found_upper None side j → new ≡ merged_upper one found
    → upper_under p sides j ≡ merged_upper found (upper_under p [] j) → upper_under p here j ≡ merged_upper new (upper_under p [] j)
upper_later p side sides here j found one new is e f inv =
    ap (λ l. upper_under p l j) is ∙ upper_turn p side sides j None ∙ ap (λ o. merged_upper o (upper_under p sides j)) (sym e) ∙ ap (merged_upper one) inv
    ∙ upper_both one found (upper_under p [] j) ∙ ap (λ n. merged_upper n (upper_under p [] j)) (sym f)
