-- The sum of weights: F.x >= R at each point that meets what the weights name.
use Rattle.std.proofs.Common.{◌==◌, ◌≡◌, ◌∙◌, ℕ, List, [], ◌∷◌, Bool, true, false, refl, sym, ap, Option, Some, None, IfSome, slice_get, option_and_then, length, if◌then◌else◌}
use Rattle.std.proofs.lemmas.Bool.{and_parts}
use Rattle.rational.specs.Rational.{Rational, ◌≤ℚ◌, ◌+ℚ◌, ◌*ℚ◌, zero_ℚ, one_ℚ}
use Rattle.milp.specs.Form.{Entry}
use Rattle.verdicts.specs.WeightedSums.{scaled, Weighted, combined, combined_bound}
use Rattle.rational.proofs.Laws as Q
use Rattle.verdicts.proofs.Duality.{value-append, value-scaled}
use Rattle.rational.specs.Compare.{is_less, is_at_most}
use Rattle.milp.specs.Problem.{Row, Problem}
use Rattle.milp.specs.Form.{number_at, sum_at}
use Rattle.milp.specs.Points.{IsWithin, Relaxed}
use Rattle.verdicts.specs.Certificate.{Item, Weights, Side, Derived}
use Rattle.verdicts.specs.Proves.{term, bound_used, row_term, column_term, derived_term, split_term, TakesSide, TakesAll, side_form, side_bound, way_get, joined, gathered, terms, same_form, shows, refutes, lower_under, upper_under, MeetsDerived, AllDerived, InsideBounds}
use Rattle.rational.proofs.Laws.{less_true, less_false, at_most_true}
use Rattle.verdicts.proofs.Numbers.{le_by, mul-le-mul_neg}
use Rattle.verdicts.proofs.Forms.{same_form-value}

-- the point meets the term's inequality, times its weight
pub record Meets (x : List Rational) (t : Weighted) : Type 0 where
  pub scaled : t.weight *ℚ t.bound ≤ℚ t.weight *ℚ sum_at x t.form

abbrev pub AllMeet : List Rational → List Weighted → Type 0
AllMeet x [] = Unit {0}
AllMeet x (t ∷ ts) = Meets x t × AllMeet x ts

pub combined_le : (x : List Rational) (ts : List Weighted) → AllMeet x ts → combined_bound ts ≤ℚ sum_at x (combined ts)
combined_le x [] h = Q.le_refl zero_ℚ
combined_le x (t ∷ ts) h =
    le_by _ _ _ _ refl (value-append (number_at x) (scaled t.weight t.form) (combined ts) ∙ ap (λ v. v +ℚ sum_at x (combined ts)) (value-scaled (number_at x) t.weight t.form))
    (Q.add-le-add _ _ _ _ h.0.scaled (combined_le x ts h.1))

-- ---- each kind of term

lower_meets : (x : List Rational) (w : Rational) (form : List Entry) (lower : Option Rational) → zero_ℚ ≤ℚ w → IfSome lower (λ b. b ≤ℚ sum_at x form) → IfSome (term w form lower) (Meets x)
lower_meets x w form None h k = tt
lower_meets x w form (Some b) h k = record { scaled = Q.mul-le-mul w b (sum_at x form) h k }

upper_meets : (x : List Rational) (w : Rational) (form : List Entry) (upper : Option Rational) → w ≤ℚ zero_ℚ → IfSome upper (λ b. sum_at x form ≤ℚ b) → IfSome (term w form upper) (Meets x)
upper_meets x w form None h k = tt
upper_meets x w form (Some b) h k = record { scaled = mul-le-mul_neg w (sum_at x form) b h k }

pub term_meets : (x : List Rational) (w : Rational) (form : List Entry) (lower upper : Option Rational) → IsWithin lower upper (sum_at x form) → IfSome (term w form (bound_used w lower upper)) (Meets x)
term_meets x w form lower upper h = go (is_less zero_ℚ w) refl
  where
    go : (b : Bool) → is_less zero_ℚ w ≡ b → IfSome (term w form (if b then lower else upper)) (Meets x)
    go true e = lower_meets x w form lower (Q.le_of_lt _ _ (less_true _ _ e)) h.low
    go false e = upper_meets x w form upper (less_false _ _ e) h.high

pub row_meets : (p : Problem) (x : List Rational) → Relaxed p x → (i : Item) → IfSome (row_term p i) (Meets x)
row_meets p x h i = go (slice_get p.rows i.index) (h.rows i.index)
  where
    go : (o : Option Row) → IfSome o (λ r. IsWithin r.lower r.upper (sum_at x r.entries)) → IfSome (option_and_then (λ r. term i.weight r.entries (bound_used i.weight r.lower r.upper)) o) (Meets x)
    go None k = tt
    go (Some r) k = term_meets x i.weight r.entries r.lower r.upper k

pub derived_meets : (x : List Rational) (ds : List Derived) → AllDerived x ds → (i : Item) → IfSome (derived_term ds i) (Meets x)
derived_meets x ds h i = choose (is_less zero_ℚ i.weight) refl
  where
    go : (o : Option Derived) → zero_ℚ ≤ℚ i.weight → IfSome o (MeetsDerived x) → IfSome (option_and_then (λ d. term i.weight d.form (Some d.bound)) o) (Meets x)
    go None w k = tt
    go (Some d) w k = record { scaled = Q.mul-le-mul i.weight d.bound (sum_at x d.form) w k }

    choose : (b : Bool) → is_less zero_ℚ i.weight ≡ b → IfSome (if b then option_and_then (λ d. term i.weight d.form (Some d.bound)) (slice_get ds i.index) else None) (Meets x)
    choose true e = go (slice_get ds i.index) (Q.le_of_lt _ _ (less_true _ _ e)) (h i.index)
    choose false e = tt

unit_value : (x : List Rational) (j : ℕ) → sum_at x (record { column = j; coefficient = one_ℚ } ∷ []) ≡ number_at x j
unit_value x j = Q.add-zero _ ∙ Q.one-mul _

pub column_meets : (p : Problem) (sides : List Side) (x : List Rational) → InsideBounds p sides x → (i : Item) → IfSome (column_term p sides i) (Meets x)
column_meets p sides x h i =
    term_meets x i.weight (record { column = i.index; coefficient = one_ℚ } ∷ []) (lower_under p sides i.index) (upper_under p sides i.index)
    (let P : Rational → Type 0 = λ v. IsWithin (lower_under p sides i.index) (upper_under p sides i.index) v in rw (unit_value x i.index) (h.within i.index))

pub way_taken : (x : List Rational) (taken : List Side) → TakesAll x taken → (i : ℕ) → IfSome (way_get taken i) (TakesSide x)
way_taken x [] h i = tt
way_taken x (s ∷ sides) h i = go (i == length sides) (way_taken x sides h.1 i)
  where
    go : (b : Bool) → IfSome (way_get sides i) (TakesSide x) → IfSome (if b then Some s else way_get sides i) (TakesSide x)
    go true k = h.0
    go false k = k

pub split_meets : (x : List Rational) (taken : List Side) → TakesAll x taken → (i : Item) → IfSome (split_term taken i) (Meets x)
split_meets x taken h i = choose (is_less zero_ℚ i.weight) refl
  where
    go : (o : Option Side) → zero_ℚ ≤ℚ i.weight → IfSome o (TakesSide x) → IfSome (option_and_then (λ s. term i.weight (side_form s) (Some (side_bound s))) o) (Meets x)
    go None w k = tt
    go (Some s) w k = record { scaled = Q.mul-le-mul i.weight (side_bound s) (sum_at x (side_form s)) w k }

    choose : (b : Bool) → is_less zero_ℚ i.weight ≡ b → IfSome (if b then option_and_then (λ s. term i.weight (side_form s) (Some (side_bound s))) (way_get taken i.index) else None) (Meets x)
    choose true e = go (way_get taken i.index) (Q.le_of_lt _ _ (less_true _ _ e)) (way_taken x taken h i.index)
    choose false e = tt

-- ---- together

pub joined_meets : (x : List Rational) (o : Option Weighted) (r : Option (List Weighted)) → IfSome o (Meets x) → IfSome r (AllMeet x) → IfSome (joined o r) (AllMeet x)
joined_meets x None r h k = tt
joined_meets x (Some t) None h k = tt
joined_meets x (Some t) (Some ts) h k = (h, k)

gathered_meets : (x : List Rational) (f : Item → Option Weighted) (is : List Item) (rest : Option (List Weighted)) → ((i : Item) → IfSome (f i) (Meets x)) → IfSome rest (AllMeet x) → IfSome (gathered f is rest) (AllMeet x)
gathered_meets x f [] rest h k = k
gathered_meets x f (i ∷ is) rest h k = joined_meets x (f i) (gathered f is rest) (h i) (gathered_meets x f is rest h k)

pub terms_meet : (p : Problem) (ds : List Derived) (narrowed taken : List Side) (w : Weights) (x : List Rational) → Relaxed p x → AllDerived x ds → InsideBounds p narrowed x → TakesAll x taken → IfSome (terms p ds narrowed taken w) (AllMeet x)
terms_meet p ds narrowed taken w x h d k s =
    gathered_meets x (row_term p) w.rows _ (row_meets p x h)
    (gathered_meets x (column_term p narrowed) w.columns _ (column_meets p narrowed x k)
    (gathered_meets x (derived_term ds) w.derived _ (derived_meets x ds d)
    (gathered_meets x (split_term taken) w.splits (Some []) (split_meets x taken s) tt)))

-- ---- what the tests show

pub shows_sound : (n : ℕ) (x : List Rational) (o : Option (List Weighted)) (form : List Entry) (bound : Rational) → length x ≡ n → IfSome o (AllMeet x) → shows n o form bound ≡ true → bound ≤ℚ sum_at x form
shows_sound n x None form bound e h t = cc
shows_sound n x (Some ts) form bound e h t =
    let both = and_parts (same_form n (combined ts) form) (is_at_most bound (combined_bound ts)) t in
    Q.le_trans _ _ _ (at_most_true _ _ both.1) (le_by _ _ _ _ refl (sym (same_form-value n x (combined ts) form e both.0)) (combined_le x ts h))

pub refutes_sound : (n : ℕ) (x : List Rational) (o : Option (List Weighted)) → length x ≡ n → IfSome o (AllMeet x) → refutes n o ≡ true → ⊥
refutes_sound n x None e h t = cc
refutes_sound n x (Some ts) e h t =
    let both = and_parts (same_form n (combined ts) []) (is_less zero_ℚ (combined_bound ts)) t in
    Q.lt-not-le _ _ (less_true _ _ both.1) (le_by _ _ _ _ refl (sym (same_form-value n x (combined ts) [] e both.0)) (combined_le x ts h))

pub sums_bound : (p : Problem) (ds : List Derived) (narrowed taken : List Side) (w : Weights) (x : List Rational) (ts : List Weighted) → Relaxed p x → InsideBounds p narrowed x → TakesAll x taken → AllDerived x ds → terms p ds narrowed taken w ≡ Some ts → combined_bound ts ≤ℚ sum_at x (combined ts)
sums_bound p ds narrowed taken w x ts h k s d e = combined_le x ts (rw e at (terms_meet p ds narrowed taken w x h d k s))
