-- The weights of variables, pushed in their order.
use Rattle.std.proofs.Common.{◌≡◌, ◌∙◌, ℕ, zero, suc, ◌+◌, ◌-◌, ◌<◌, ◌≤◌, true, false, List, [], ◌∷◌, ◌++◌, refl, sym, ap, arith, ◌==◌}
use Rattle.std.specs.Prelude.{negsuc, Result, Ok, Err, IfOk}
use Rattle.std.proofs.lemmas.List.{append-nil}
use Rattle.std.proofs.lemmas.Bool.Decides.{nat_tests}
use Rattle.rational.specs.Rational.{Rational, zero_ℚ, one_ℚ, whole}
use Rattle.verdicts.specs.Certificate.{Item}
use Rattle.verdicts.proofs.Laws.{neg-zero}
use Rattle.basis.specs.Dictionary as D
use Rattle.basis.specs.Dictionary.{IsResting, IsBasic, rate_of, gain_of}
use Rattle.basis.specs.Weights.{items_at, items_of, nonzero, row_weight, contradiction_weights}
use Rattle.basis.proofs.Laws.{not_resting}
use Rattle.dictionary.specs.Table.{Table, is_basic, dictionary_of}
use Rattle.simplex.specs.Sources.{weight_from, weights_from}
use Rattle.simplex.specs.declared.weights.Source.{Source}
use Rattle.dictionary.proofs.Laws.{basic_test, is_over_resting}

-- ---- numbers of basic variables

basic_not_resting : (t : Table) (v : ℕ) → is_basic (D.place_of t.places v) ≡ true → ¬ (IsResting t.places v)
basic_not_resting t v e rests = rests.not_basic (basic_test (D.place_of t.places v) e)

pub no_gain : (t : Table) (v : ℕ) → is_basic (D.place_of t.places v) ≡ true → gain_of (dictionary_of t) v ≡ zero_ℚ
no_gain t v e = not_resting t.places ((dictionary_of t).objective) v (is_over_resting t).objective (basic_not_resting t v e)

no_rate : (t : Table) (r v : ℕ) → IsBasic t.places r → is_basic (D.place_of t.places v) ≡ true → rate_of (dictionary_of t) v r ≡ zero_ℚ
no_rate t r v h e = not_resting t.places ((dictionary_of t).row r) v ((is_over_resting t).rows r h) (basic_not_resting t v e)

pub no_row_weight : (t : Table) (r v : ℕ) → IsBasic t.places r → (v == r) ≡ false → is_basic (D.place_of t.places v) ≡ true → row_weight (dictionary_of t) r v ≡ zero_ℚ
no_row_weight t r v h other e = rw (other, no_rate t r v h e) neg-zero

-- ---- items

append_assoc : (a b c : List Item) → (a ++ b) ++ c ≡ a ++ (b ++ c)
append_assoc [] b c = refl
append_assoc (x ∷ a) b c = ap (λ t. x ∷ t) (append_assoc a b c)

items_more : (f : ℕ → List Rational) (n first i : ℕ) → items_of f first i (suc n) ≡ items_of f first i n ++ items_at (i + n) (f (first + n))
items_more f zero first i = append-nil (items_at i (f first)) ∙ (let e : first ≡ first + 0 = omega arith in let k : i ≡ i + 0 = omega arith in rw (sym e, sym k) refl)
items_more f (suc n) first i =
    let e : suc first + n ≡ first + suc n = omega arith in
    let k : suc i + n ≡ i + suc n = omega arith in
    ap (λ rest. items_at i (f first) ++ rest) (items_more f n (suc first) (suc i)) ∙ sym (append_assoc (items_at i (f first)) (items_of f (suc first) (suc i) n) (items_at (suc i + n) (f (suc first + n))))
    ∙ ap (λ m. (items_at i (f first) ++ items_of f (suc first) (suc i) n) ++ items_at m (f (suc first + n))) k ∙ ap (λ m. (items_at i (f first) ++ items_of f (suc first) (suc i) n) ++ items_at (i + suc n) (f m)) e

pub one_more_item : (t : Table) (source : Source) (first n : ℕ) (old new : List Item) (w : Rational) → w ≡ weight_from t source (first + n) → old ≡ items_of (weights_from t source) first 0 n
    → new ≡ old ++ items_at n (nonzero w) → new ≡ items_of (weights_from t source) first 0 (n + 1)
one_more_item t source first n old new w e f g =
    let one : n + 1 ≡ suc n = omega arith in
    let at : 0 + n ≡ n = omega arith in
    g ∙ ap (λ xs. xs ++ items_at n (nonzero w)) f ∙ ap (λ a. items_of (weights_from t source) first 0 n ++ items_at n (nonzero a)) e
    ∙ sym (ap (items_of (weights_from t source) first 0) one ∙ items_more (weights_from t source) n first 0 ∙ ap (λ m. items_of (weights_from t source) first 0 n ++ items_at m (weights_from t source (first + n))) at)

-- ---- the items of contradictory bounds

none_before : (v n first i : ℕ) → v < first → items_of (contradiction_weights v) first i n ≡ []
none_before v zero first i h = refl
none_before v (suc n) first i h = let other : (first == v) ≡ false = grind (arith, nat_tests) in rw other (none_before v n (suc first) (suc i) (omega arith))

none_after : (v n first i : ℕ) → first + n ≤ v → items_of (contradiction_weights v) first i n ≡ []
none_after v zero first i h = refl
none_after v (suc n) first i h = let less : first < v = omega arith in let other : (first == v) ≡ false = grind (arith, nat_tests) in rw other (none_after v n (suc first) (suc i) (omega arith))

both_at : (v n first i k : ℕ) → v ≡ first + k → k < n → items_of (contradiction_weights v) first i n ≡ items_at (i + k) (one_ℚ ∷ whole (negsuc 0) ∷ [])
both_at v zero first i k e h = absurd (omega arith)
both_at v (suc n) first i zero e h =
    let same : first ≡ v = omega arith in
    let self : (first == v) ≡ true = grind (arith, nat_tests) in
    let at : i ≡ i + 0 = omega arith in
    rw self (ap (λ rest. items_at i (one_ℚ ∷ whole (negsuc 0) ∷ []) ++ rest) (none_before v n (suc first) (suc i) (omega arith)) ∙ ap (λ m. items_at m (one_ℚ ∷ whole (negsuc 0) ∷ [])) at)
both_at v (suc n) first i (suc k) e h =
    let less : first < v = omega arith in
    let other : (first == v) ≡ false = grind (arith, nat_tests) in
    let at : suc i + k ≡ i + suc k = omega arith in
    rw other (both_at v n (suc first) (suc i) k (omega arith) (omega arith) ∙ ap (λ m. items_at m (one_ℚ ∷ whole (negsuc 0) ∷ [])) at)

pub no_items_before : (v n first : ℕ) (items : List Item) → v < first → items ≡ [] → items ≡ items_of (contradiction_weights v) first 0 n
no_items_before v n first items h e = e ∙ sym (none_before v n first 0 h)

pub no_items_after : (v n first d : ℕ) (items : List Item) → d ≡ v - first → n ≤ d → first ≤ v → items ≡ [] → items ≡ items_of (contradiction_weights v) first 0 n
no_items_after v n first d items f h k e = e ∙ sym (none_after v n first 0 (omega arith))

both_items : (v n first d : ℕ) (items : List Item) → d ≡ v - first → d < n → first ≤ v → items ≡ items_at d (one_ℚ ∷ whole (negsuc 0) ∷ []) → items ≡ items_of (contradiction_weights v) first 0 n
both_items v n first d items f h k e = let at : 0 + d ≡ d = omega arith in e ∙ sym (both_at v n first 0 d (omega arith) h ∙ ap (λ m. items_at m (one_ℚ ∷ whole (negsuc 0) ∷ [])) at)

pub both_items_of : {E : Type 0} (v n first d : ℕ) (items : Result (List Item) E) → d ≡ v - first → d < n → first ≤ v → IfOk items (λ i. i ≡ items_at d (one_ℚ ∷ whole (negsuc 0) ∷ []))
    → IfOk items (λ i. i ≡ items_of (contradiction_weights v) first 0 n)
both_items_of v n first d (Ok items) f h k e = both_items v n first d items f h k e
both_items_of v n first d (Err e) f h k g = tt
