-- What weights on variables make of a node's terms: their form and their bound.
use Rattle.std.proofs.Common.{◌≡◌, ◌∙◌, ℕ, zero, suc, ◌+◌, ◌<◌, ◌≤◌, List, [], ◌∷◌, ◌++◌, refl, sym, ap, subst, arith, Option, Some}
use Rattle.std.specs.Prelude.{unwrap_or}
use mathlib.Core.Path.{ap₂}
use Rattle.rational.specs.Rational.{Rational, ◌+ℚ◌, ◌*ℚ◌, zero_ℚ}
use Rattle.milp.specs.Form.{Entry, value_at}
use Rattle.verdicts.specs.Certificate.{Item}
use Rattle.verdicts.specs.WeightedSums.{scaled, Weighted, combined, combined_bound, sum_below, AllBelow}
use Rattle.verdicts.specs.Proves.{term, bound_used, joined, gathered}
use Rattle.verdicts.proofs.Laws.{value-append, value-scaled}
use Rattle.rational.proofs.Laws as Q
use Rattle.rational.proofs.Laws.{field, field_units}
use Rattle.basis.specs.System.{System, size, lower_of, upper_of, form_of}
use Rattle.basis.specs.Weights.{items_at, items_of}
use Rattle.basis.proofs.Values.{below-append, below-scaled}

-- ---- the terms of weights on variables

abbrev pub used : System → Rational → ℕ → Rational
used s w v = unwrap_or (bound_used w (lower_of s v) (upper_of s v)) zero_ℚ

abbrev pub at_variable : System → ℕ → List Rational → List Weighted
at_variable s v [] = []
at_variable s v (w ∷ ws) = record { weight = w; form = form_of s v; bound = used s w v } ∷ at_variable s v ws

abbrev pub in_range : System → (ℕ → List Rational) → ℕ → ℕ → List Weighted
in_range s f first zero = []
in_range s f first (suc count) = at_variable s first (f first) ++ in_range s f (suc first) count

-- the bound that each weight uses is there
abbrev pub AreBoundsThere : System → ℕ → List Rational → Type 0
AreBoundsThere s v [] = Unit {0}
AreBoundsThere s v (w ∷ ws) = (bound_used w (lower_of s v) (upper_of s v) ≡ Some (used s w v)) × AreBoundsThere s v ws

abbrev pub system_term : System → ℕ → Rational → Option Weighted
system_term s v w = term w (form_of s v) (bound_used w (lower_of s v) (upper_of s v))

gathered-append : (g : Item → Option Weighted) (a b : List Item) (rest : Option (List Weighted)) → gathered g (a ++ b) rest ≡ gathered g a (gathered g b rest)
gathered-append g [] b rest = refl
gathered-append g (i ∷ a) b rest = ap (joined (g i)) (gathered-append g a b rest)

gathered_at : (g : Item → Option Weighted) (s : System) (v i : ℕ) (ws : List Rational) (ts : List Weighted)
    → ((w : Rational) → g (record { index = i; weight = w }) ≡ system_term s v w) → AreBoundsThere s v ws → gathered g (items_at i ws) (Some ts) ≡ Some (at_variable s v ws ++ ts)
gathered_at g s v i [] ts h k = refl
gathered_at g s v i (w ∷ ws) ts h k = ap₂ joined (h w ∙ ap (term w (form_of s v)) k.0) (gathered_at g s v i ws ts h k.1)

pub gathered_range : (g : Item → Option Weighted) (s : System) (f : ℕ → List Rational) (base limit first i count : ℕ) (ts : List Weighted) → first ≡ base + i → i + count ≤ limit
    → ((j : ℕ) → j < limit → (w : Rational) → g (record { index = j; weight = w }) ≡ system_term s (base + j) w)
    → ((j : ℕ) → j < limit → AreBoundsThere s (base + j) (f (base + j)))
    → gathered g (items_of f first i count) (Some ts) ≡ Some (in_range s f first count ++ ts)
gathered_range g s f base limit first i zero ts e l h k = refl
gathered_range g s f base limit first i (suc count) ts e l h k =
    let inside : i < limit = omega arith in
    let P : ℕ → Type 0 = λ v. (w : Rational) → g (record { index = i; weight = w }) ≡ system_term s v w in
    let R : ℕ → Type 0 = λ v. AreBoundsThere s v (f v) in
    gathered-append g (items_at i (f first)) (items_of f (suc first) (suc i) count) (Some ts)
    ∙ ap (gathered g (items_at i (f first))) (gathered_range g s f base limit (suc first) (suc i) count ts (omega arith) (omega arith) h k)
    ∙ gathered_at g s first i (f first) (in_range s f (suc first) count ++ ts) (subst P (sym e) (h i inside)) (subst R (sym e) (k i inside))
    ∙ ap Some (sym (append_assoc (at_variable s first (f first)) (in_range s f (suc first) count) ts))
  where
    append_assoc : (a b c : List Weighted) → (a ++ b) ++ c ≡ a ++ (b ++ c)
    append_assoc [] b c = refl
    append_assoc (x ∷ a) b c = ap (λ t. x ∷ t) (append_assoc a b c)

-- ---- sums over variables

abbrev pub list_sum : List Rational → Rational
list_sum [] = zero_ℚ
list_sum (w ∷ ws) = w +ℚ list_sum ws

abbrev pub used_sum : System → ℕ → List Rational → Rational
used_sum s v [] = zero_ℚ
used_sum s v (w ∷ ws) = w *ℚ used s w v +ℚ used_sum s v ws

-- g first + .. , `count` numbers
abbrev pub range_sum : (ℕ → Rational) → ℕ → ℕ → Rational
range_sum g first zero = zero_ℚ
range_sum g first (suc count) = g first +ℚ range_sum g (suc first) count

range_split : (g : ℕ → Rational) (first a b : ℕ) → range_sum g first (a + b) ≡ range_sum g first a +ℚ range_sum g (first + a) b
range_split g first zero b = let e : zero + b ≡ b = omega arith in let f : first ≡ first + zero = omega arith in ap (range_sum g first) e ∙ ap (λ v. range_sum g v b) f ∙ sym (Q.zero-add _)
range_split g first (suc a) b =
    let e : suc a + b ≡ suc (a + b) = omega arith in
    let f : suc first + a ≡ first + suc a = omega arith in
    ap (range_sum g first) e ∙ ap (λ t. g first +ℚ t) (range_split g (suc first) a b ∙ ap (λ v. range_sum g (suc first) a +ℚ range_sum g v b) f) ∙ sym (Q.add_assoc _ _ _)

range_last : (g : ℕ → Rational) (first count : ℕ) → range_sum g first (suc count) ≡ range_sum g first count +ℚ g (first + count)
range_last g first count =
    let e : suc count ≡ count + 1 = omega arith in
    ap (range_sum g first) e ∙ range_split g first count 1 ∙ ap (λ t. range_sum g first count +ℚ t) (Q.add-zero _)

pub below_range : (g : ℕ → Rational) (n : ℕ) → sum_below n g ≡ range_sum g 0 n
below_range g zero = refl
below_range g (suc n) = let e : 0 + n ≡ n = omega arith in ap (λ t. g n +ℚ t) (below_range g n) ∙ Q.add_comm _ _ ∙ ap (λ v. range_sum g 0 n +ℚ g v) (sym e) ∙ sym (range_last g 0 n)

-- the three kinds of variables, in the order of weights
pub three_kinds : (g : ℕ → Rational) (n m k : ℕ) → range_sum g n m +ℚ (range_sum g 0 n +ℚ (range_sum g (n + m) k +ℚ zero_ℚ)) ≡ sum_below (n + (m + k)) g
three_kinds g n m k =
    let e : 0 + n ≡ n = omega arith in
    order _ _ _ ∙ sym (below_range g (n + (m + k)) ∙ range_split g 0 n (m + k) ∙ ap (λ t. range_sum g 0 n +ℚ t) (ap (λ v. range_sum g v (m + k)) e ∙ range_split g n m k))
  where
    order : (a b c : Rational) → a +ℚ (b +ℚ (c +ℚ zero_ℚ)) ≡ b +ℚ (a +ℚ c)
    order a b c = ap (λ t. a +ℚ (b +ℚ t)) (Q.add-zero c) ∙ Q.add_left_comm a b c

-- ---- values and bounds

combined-append : (a b : List Weighted) → combined (a ++ b) ≡ combined a ++ combined b
combined-append [] b = refl
combined-append (t ∷ a) b = ap (λ f. scaled t.weight t.form ++ f) (combined-append a b) ∙ sym (append_assoc (scaled t.weight t.form) (combined a) (combined b))
  where
    append_assoc : (a b c : List Entry) → (a ++ b) ++ c ≡ a ++ (b ++ c)
    append_assoc [] b c = refl
    append_assoc (x ∷ a) b c = ap (λ t. x ∷ t) (append_assoc a b c)

pub bound-append : (a b : List Weighted) → combined_bound (a ++ b) ≡ combined_bound a +ℚ combined_bound b
bound-append [] b = sym (Q.zero-add _)
bound-append (t ∷ a) b = ap (λ u. t.weight *ℚ t.bound +ℚ u) (bound-append a b) ∙ sym (Q.add_assoc _ _ _)

pub value-combined : (y : ℕ → Rational) (a b : List Weighted) → value_at y (combined (a ++ b)) ≡ value_at y (combined a) +ℚ value_at y (combined b)
value-combined y a b = ap (value_at y) (combined-append a b) ∙ value-append y (combined a) (combined b)

value_at_variable : (s : System) (y : ℕ → Rational) (v : ℕ) (ws : List Rational) → value_at y (form_of s v) ≡ y v → value_at y (combined (at_variable s v ws)) ≡ list_sum ws *ℚ y v
value_at_variable s y v [] h = sym (Q.zero-mul _)
value_at_variable s y v (w ∷ ws) h =
    value-append y (scaled w (form_of s v)) (combined (at_variable s v ws))
    ∙ ap₂ ◌+ℚ◌ (value-scaled y w (form_of s v) ∙ ap (λ t. w *ℚ t) h) (value_at_variable s y v ws h) ∙ sym (Q.add_mul w (list_sum ws) (y v))

pub value_in_range : (s : System) (y : ℕ → Rational) (f : ℕ → List Rational) (first count : ℕ) → first + count ≤ size s → ((v : ℕ) → v < size s → value_at y (form_of s v) ≡ y v)
    → value_at y (combined (in_range s f first count)) ≡ range_sum (λ v. list_sum (f v) *ℚ y v) first count
value_in_range s y f first zero l h = refl
value_in_range s y f first (suc count) l h =
    value-combined y (at_variable s first (f first)) (in_range s f (suc first) count)
    ∙ ap₂ ◌+ℚ◌ (value_at_variable s y first (f first) (h first (omega arith))) (value_in_range s y f (suc first) count (omega arith) h)

bound_at_variable : (s : System) (v : ℕ) (ws : List Rational) → combined_bound (at_variable s v ws) ≡ used_sum s v ws
bound_at_variable s v [] = refl
bound_at_variable s v (w ∷ ws) = ap (λ t. w *ℚ used s w v +ℚ t) (bound_at_variable s v ws)

pub bound_in_range : (s : System) (f : ℕ → List Rational) (first count : ℕ) → combined_bound (in_range s f first count) ≡ range_sum (λ v. used_sum s v (f v)) first count
bound_in_range s f first zero = refl
bound_in_range s f first (suc count) =
    bound-append (at_variable s first (f first)) (in_range s f (suc first) count) ∙ ap₂ ◌+ℚ◌ (bound_at_variable s first (f first)) (bound_in_range s f (suc first) count)

pub below-combined : (n : ℕ) (a b : List Weighted) → AllBelow n (combined a) → AllBelow n (combined b) → AllBelow n (combined (a ++ b))
below-combined n a b h k = rw (combined-append a b) (below-append n (combined a) (combined b) h k)

below_at_variable : (s : System) (v : ℕ) (ws : List Rational) → AllBelow s.columns (form_of s v) → AllBelow s.columns (combined (at_variable s v ws))
below_at_variable s v [] h = tt
below_at_variable s v (w ∷ ws) h = below-append s.columns (scaled w (form_of s v)) (combined (at_variable s v ws)) (below-scaled s.columns w (form_of s v) h) (below_at_variable s v ws h)

pub below_in_range : (s : System) (f : ℕ → List Rational) (first count : ℕ) → first + count ≤ size s → ((v : ℕ) → v < size s → AllBelow s.columns (form_of s v)) → AllBelow s.columns (combined (in_range s f first count))
below_in_range s f first zero l h = tt
below_in_range s f first (suc count) l h =
    below-combined s.columns (at_variable s first (f first)) (in_range s f (suc first) count) (below_at_variable s first (f first) (h first (omega arith))) (below_in_range s f (suc first) count (omega arith) h)
