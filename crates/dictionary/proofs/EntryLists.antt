-- Entries in ascending order of column: their coefficients, and where they are cut.
use Rattle.std.proofs.Common.{◌≡◌, ◌∙◌, ℕ, zero, suc, ◌+◌, ◌<◌, ◌≤◌, ◌≢◌, ◌==◌, List, [], ◌∷◌, ◌++◌, length, get_or, take, drop, append_assoc, refl, sym, ap, subst, arith, true, false, Bool, if◌then◌else◌}
use Rattle.std.specs.Prelude.{cond, slice_get, Option, Some, None, ltb, slice_index_or}
use Rattle.std.specs.List.{remove}
use Rattle.std.proofs.lemmas.List.{drop_more, take_more, take-append-drop}
use Rattle.std.proofs.lemmas.Bool.{ltb-true}
use Rattle.std.proofs.lemmas.Bool.Decides.{nat_tests}
use Rattle.std.proofs.lemmas.Option.{same_Some}
use Rattle.std.proofs.Math.Decide.{ℕ_discrete}
use mathlib.Core.Path.{ap₂}
use Rattle.rational.specs.Rational.{Rational, zero_ℚ, ◌+ℚ◌}
use Rattle.rational.specs.Compare.{is_zero}
use Rattle.rational.proofs.Laws as Q
use Rattle.milp.specs.Form.{Entry}
use Rattle.verdicts.specs.WeightedSums.{AllBelow, coefficient_of}
use Rattle.verdicts.proofs.Laws.{coefficient-append}
use Rattle.dictionary.specs.Ascending.{IsAscending}
use Rattle.dictionary.specs.Sparse.{entry_unless_zero}

-- ---- coefficients

-- no coefficient before the first column
pub before : (least : ℕ) (form : List Entry) (j : ℕ) → IsAscending least form → j < least → coefficient_of form j ≡ zero_ℚ
before least [] j h k = refl
before least (e ∷ es) j h k =
    let low : least ≤ e.column = h.0 in
    let other : (e.column == j) ≡ false = grind (arith, nat_tests) in
    rw other (Q.zero-add _ ∙ before (e.column + 1) es j h.1 (omega arith))

pub skipped : (e : Entry) (es : List Entry) (j : ℕ) → e.column ≢ j → coefficient_of (e ∷ es) j ≡ coefficient_of es j
skipped e es j n = let other : (e.column == j) ≡ false = grind (arith, nat_tests) in rw other (Q.zero-add _)

pub taken : (e : Entry) (es : List Entry) → IsAscending (e.column + 1) es → coefficient_of (e ∷ es) e.column ≡ e.coefficient
taken e es h = let self : (e.column == e.column) ≡ true = grind (arith, nat_tests) in rw self (ap (λ t. e.coefficient +ℚ t) (before (e.column + 1) es e.column h (omega arith)) ∙ Q.add-zero _)

-- none from a column on that all are below
pub beyond : (n : ℕ) (form : List Entry) (j : ℕ) → AllBelow n form → n ≤ j → coefficient_of form j ≡ zero_ℚ
beyond n [] j h k = refl
beyond n (e ∷ es) j h k = let low : e.column < n = h.0 in skipped e es j (λ w. absurd (omega arith)) ∙ beyond n es j h.1 k

pub alone_other : (e : Entry) (j : ℕ) → e.column ≢ j → coefficient_of (e ∷ []) j ≡ zero_ℚ
alone_other e j n = skipped e [] j n

pub alone_here : (e : Entry) → coefficient_of (e ∷ []) e.column ≡ e.coefficient
alone_here e = taken e [] tt

-- ---- bounds on the columns

pub below_more : (n m : ℕ) (form : List Entry) → n ≤ m → AllBelow n form → AllBelow m form
below_more n m [] k h = tt
below_more n m (e ∷ es) k h = let low : e.column < n = h.0 in (omega arith, below_more n m es k h.1)

pub below_joined : (n : ℕ) (es fs : List Entry) → AllBelow n es → AllBelow n fs → AllBelow n (es ++ fs)
below_joined n [] fs h k = k
below_joined n (e ∷ es) fs h k = (h.0, below_joined n es fs h.1 k)

pub below_left : (n : ℕ) (es fs : List Entry) → AllBelow n (es ++ fs) → AllBelow n es
below_left n [] fs h = tt
below_left n (e ∷ es) fs h = (h.0, below_left n es fs h.1)

pub below_right : (n : ℕ) (es fs : List Entry) → AllBelow n (es ++ fs) → AllBelow n fs
below_right n [] fs h = h
below_right n (e ∷ es) fs h = below_right n es fs h.1

pub ascending_less : (a b : ℕ) (form : List Entry) → b ≤ a → IsAscending a form → IsAscending b form
ascending_less a b [] k h = tt
ascending_less a b (e ∷ es) k h = let low : a ≤ e.column = h.0 in (omega arith, h.1)

pub ascending_left : (a : ℕ) (es fs : List Entry) → IsAscending a (es ++ fs) → IsAscending a es
ascending_left a [] fs h = tt
ascending_left a (e ∷ es) fs h = (h.0, ascending_left (e.column + 1) es fs h.1)

pub ascending_right : (a : ℕ) (es fs : List Entry) → IsAscending a (es ++ fs) → IsAscending 0 fs
ascending_right a [] fs h = ascending_less a 0 fs (omega arith) h
ascending_right a (e ∷ es) fs h = ascending_right (e.column + 1) es fs h.1

pub ascending_joined : (a n : ℕ) (es fs : List Entry) → a ≤ n → IsAscending a es → AllBelow n es → IsAscending n fs → IsAscending a (es ++ fs)
ascending_joined a n [] fs k h b g = ascending_less n a fs k g
ascending_joined a n (e ∷ es) fs k h b g = let low : e.column < n = b.0 in (h.0, ascending_joined (e.column + 1) n es fs (omega arith) h.1 b.1 g)

-- ---- the entry at a place

entry_from : (a : ℕ) (form : List Entry) (i : ℕ) (d : Entry) → IsAscending a form → i < length form → a ≤ (get_or form i d).column
entry_from a [] i d h k = absurd (omega arith)
entry_from a (e ∷ es) zero d h k = h.0
entry_from a (e ∷ es) (suc i) d h k =
    let low : a ≤ e.column = h.0 in
    let rest : e.column + 1 ≤ (get_or es i d).column = entry_from (e.column + 1) es i d h.1 (omega arith) in
    omega arith

pub coefficient_at : (a : ℕ) (form : List Entry) (i : ℕ) (d : Entry) → IsAscending a form → i < length form → coefficient_of form (get_or form i d).column ≡ (get_or form i d).coefficient
coefficient_at a [] i d h k = absurd (omega arith)
coefficient_at a (e ∷ es) zero d h k = taken e es h.1
coefficient_at a (e ∷ es) (suc i) d h k =
    let rest : e.column + 1 ≤ (get_or es i d).column = entry_from (e.column + 1) es i d h.1 (omega arith) in
    skipped e es (get_or es i d).column (λ w. absurd (omega arith)) ∙ coefficient_at (e.column + 1) es i d h.1 (omega arith)

pub below_at : (n : ℕ) (form : List Entry) (i : ℕ) (d : Entry) → AllBelow n form → i < length form → (get_or form i d).column < n
below_at n [] i d h k = absurd (omega arith)
below_at n (e ∷ es) zero d h k = h.0
below_at n (e ∷ es) (suc i) d h k = below_at n es i d h.1 (omega arith)

-- ---- a cut at a column

pub rises : (a : ℕ) (form : List Entry) (i j : ℕ) (d : Entry) → IsAscending a form → i ≤ j → j < length form → (slice_index_or form i d).column ≤ (slice_index_or form j d).column
rises a [] i j d h k l = absurd (omega arith)
rises a (e ∷ es) zero zero d h k l = omega arith
rises a (e ∷ es) zero (suc j) d h k l = let rest : e.column + 1 ≤ (get_or es j d).column = entry_from (e.column + 1) es j d h.1 (omega arith) in omega arith
rises a (e ∷ es) (suc i) zero d h k l = absurd (omega arith)
rises a (e ∷ es) (suc i) (suc j) d h k l = rises (e.column + 1) es i j d h.1 (omega arith) (omega arith)

pub cut_before : (form : List Entry) (i n : ℕ) → i ≤ length form → ((k : ℕ) (d : Entry) → 0 ≤ k → k < i → ltb (slice_index_or form k d).column n ≡ true) → AllBelow n (take i form)
cut_before [] zero n k h = tt
cut_before [] (suc i) n k h = tt
cut_before (e ∷ es) zero n k h = tt
cut_before (e ∷ es) (suc i) n k h = (ltb-true e.column n (h 0 e (omega arith) (omega arith)), cut_before es i n (omega arith) (λ m d a b. h (suc m) d (omega arith) (omega arith)))

pub cut_behind : (a : ℕ) (form : List Entry) (i n : ℕ) → IsAscending a form → ((k : ℕ) (d : Entry) → i ≤ k → k < length form → ltb (slice_index_or form k d).column n ≡ false) → IsAscending n (drop i form)
cut_behind a [] zero n h k = tt
cut_behind a [] (suc i) n h k = tt
cut_behind a (e ∷ es) zero n h k = let test : ltb e.column n ≡ false = k 0 e (omega arith) (omega arith) in (not_below e.column n test, h.1)
  where
    not_below : (a b : ℕ) → ltb a b ≡ false → b ≤ a
    not_below a b h = grind (arith, nat_tests)
cut_behind a (e ∷ es) (suc i) n h k = cut_behind (e.column + 1) es i n h.1 (λ m d a b. k (suc m) d (omega arith) (omega arith))

-- a coefficient is found behind the cut
pub found_behind : (form : List Entry) (i n : ℕ) → AllBelow n (take i form) → coefficient_of (drop i form) n ≡ coefficient_of form n
found_behind form i n h =
    sym (Q.zero-add _)
    ∙ ap (λ t. t +ℚ coefficient_of (drop i form) n) (sym (beyond n (take i form) n h (omega arith)))
    ∙ sym (coefficient-append (take i form) (drop i form) n)
    ∙ ap (λ es. coefficient_of es n) (take-append-drop i form)

-- the first of the entries from a column on has its coefficient, or none has
first_is : (n : ℕ) (e : Entry) (es : List Entry) → IsAscending n (e ∷ es) → e.column ≡ n → e.coefficient ≡ coefficient_of (e ∷ es) n
first_is n e es h same = sym (subst (λ (k : ℕ). coefficient_of (e ∷ es) k ≡ e.coefficient) same (taken e es h.1))

first_is_not : (n : ℕ) (e : Entry) (es : List Entry) → IsAscending n (e ∷ es) → e.column ≢ n → zero_ℚ ≡ coefficient_of (e ∷ es) n
first_is_not n e es h differ = sym (before (n + 1) (e ∷ es) n (above, h.1) (omega arith))
  where
    above : n + 1 ≤ e.column
    above = let low : n ≤ e.column = h.0 in omega (arith, differ)

-- x is the first, as the code reads it
pub first_found : (n : ℕ) (form : List Entry) (e x : Entry) → IsAscending n form → Some e ≡ slice_get form 0 → x ≡ e → x.column ≡ n → x.coefficient ≡ coefficient_of form n
first_found n [] e x h first is same = cc
first_found n (f ∷ fs) e x h first is same = let x_is : x ≡ f = is ∙ same_Some e f first in
    subst (λ (y : Entry). y.coefficient ≡ coefficient_of (f ∷ fs) n) (sym x_is) (first_is n f fs h (subst (λ (y : Entry). y.column ≡ n) x_is same))

pub first_other : (n : ℕ) (form : List Entry) (e x : Entry) → IsAscending n form → Some e ≡ slice_get form 0 → x ≡ e → x.column ≢ n → zero_ℚ ≡ coefficient_of form n
first_other n [] e x h first is differ = refl
first_other n (f ∷ fs) e x h first is differ = let x_is : x ≡ f = is ∙ same_Some e f first in first_is_not n f fs h (subst (λ (y : Entry). y.column ≢ n) x_is differ)

pub first_none : (n : ℕ) (form : List Entry) (o : Option Entry) → o ≡ None → o ≡ slice_get form 0 → zero_ℚ ≡ coefficient_of form n
first_none n [] o none first = refl
first_none n (f ∷ fs) o none first = absurd (not_some (sym none ∙ first))
  where
    not_some : None ≡ Some f → ⊥
    not_some e = cc

pub behind_others : (n : ℕ) (form rest : List Entry) (e x : Entry) → form ≡ e ∷ rest → x ≡ e → x.column ≡ n → (j : ℕ) → j ≢ n → coefficient_of rest j ≡ coefficient_of form j
behind_others n form rest e x parts is same j differ =
    sym (skipped e rest j (λ w. differ (sym w ∙ sym (ap (λ (y : Entry). y.column) is) ∙ same))) ∙ ap (λ es. coefficient_of es j) (sym parts)

-- ---- without the entry of a column

pub record IsWithout (a at : ℕ) (form new : List Entry) : Type 0 where
  pub ascending : IsAscending a new
  pub below : (n : ℕ) → AllBelow n form → AllBelow n new
  pub here : coefficient_of new at ≡ zero_ℚ
  pub others : (j : ℕ) → j ≢ at → coefficient_of new j ≡ coefficient_of form j

pub removed : (a : ℕ) (form : List Entry) (i at : ℕ) → IsAscending a form → AllBelow at (take i form) → IsAscending at (drop i form) → coefficient_of (drop i form) at ≢ zero_ℚ → (i < length form) × IsWithout a at form (remove form i)
removed a [] zero at h low high some = absurd (some refl)
removed a [] (suc i) at h low high some = absurd (some refl)
removed a (e ∷ es) zero at h low high some = elim (ℕ_discrete e.column at) [
  | yes same ↦ (
    omega arith,
    record {
      ascending = let k : a ≤ e.column = h.0 in ascending_less (e.column + 1) a es (omega arith) h.1;
      below = λ n b. b.1;
      here = before (e.column + 1) es at h.1 (omega arith);
      others = λ j differ. sym (skipped e es j (λ w. differ (sym w ∙ same)));
    },
  )
  | no differ ↦ absurd (some (sym (first_is_not at e es high differ)))
]
removed a (e ∷ es) (suc i) at h low high some =
    let rest = removed (e.column + 1) es i at h.1 low.1 high some in
    let inside : i < length es = rest.0 in
    let under : e.column < at = low.0 in (
      omega arith,
      record {
        ascending = (h.0, rest.1.ascending);
        below = λ n b. (b.0, rest.1.below n b.1);
        here = skipped e (remove es i) at (λ w. absurd (omega arith)) ∙ rest.1.here;
        others = λ j differ. ap (λ t. cond (e.column == j) e.coefficient zero_ℚ +ℚ t) (rest.1.others j differ);
      },
    )

-- ---- an entry that is left out where its coefficient is 0

pub unless_below : (n : ℕ) (e : Entry) → e.column < n → AllBelow n (entry_unless_zero e)
unless_below n e h = go (is_zero e.coefficient)
  where
    go : (t : Bool) → AllBelow n (if t then [] else e ∷ [])
    go true = tt
    go false = (h, tt)

pub unless_ascending : (e : Entry) (es : List Entry) → IsAscending (e.column + 1) es → IsAscending e.column (entry_unless_zero e ++ es)
unless_ascending e es h = go (is_zero e.coefficient)
  where
    go : (t : Bool) → IsAscending e.column ((if t then [] else e ∷ []) ++ es)
    go true = ascending_less (e.column + 1) e.column es (omega arith) h
    go false = (omega arith, h)

pub unless_coefficient : (e : Entry) (j : ℕ) → coefficient_of (entry_unless_zero e) j ≡ coefficient_of (e ∷ []) j
unless_coefficient e j = go (is_zero e.coefficient) refl
  where
    none : (b : Bool) → cond b zero_ℚ zero_ℚ +ℚ zero_ℚ ≡ zero_ℚ
    none true = Q.add-zero zero_ℚ
    none false = Q.add-zero zero_ℚ

    go : (t : Bool) → is_zero e.coefficient ≡ t → coefficient_of (if t then [] else e ∷ []) j ≡ coefficient_of (e ∷ []) j
    go true h = sym (ap (λ c. cond (e.column == j) c zero_ℚ +ℚ zero_ℚ) (Q.zero_true e.coefficient h) ∙ none (e.column == j))
    go false h = refl
