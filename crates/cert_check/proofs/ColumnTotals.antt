-- Totals found form by form are the sums of each column's products.
use Rattle.std.proofs.Common.{◌≡◌, ◌∙◌, ℕ, zero, suc, ◌+◌, ◌<◌, ◌≤◌, ◌==◌, cond, nat_lt, Bool, true, false, if◌then◌else◌, length, get_or, drop, set, replicate, Result, Ok, Err, List, [], ◌∷◌, ◌++◌, append_assoc, append-nil, length-set, refl, sym, ap, subst, arith}
use Rattle.std.proofs.Math.Decide.{ℕ_discrete}
use Rattle.std.proofs.lemmas.Bool.{eq-eqb}
use Rattle.std.proofs.lemmas.Bool.Decides.{nat_tests}
use Rattle.std.proofs.lemmas.List.{get_or-set_same, get_or-set_other, get_or_default, drop_all}
use Rattle.rational.specs.Rational.{Rational, zero_ℚ}
use Rattle.fraction.specs.declared.frac.NoFit.{NoFit}
use Rattle.milp.specs.Form.{Entry}
use Rattle.instance.specs.Sums.{and_then}
use Rattle.verdicts.specs.Certificate.{Item, Weights}
use Rattle.cert_check.specs.Setting.{Setting}
use Rattle.cert_check.specs.declared.kind.Kind.TheVariants.{OfRow, OfColumn, OfDerived, OfSplit}
use Rattle.milp.specs.Problem.{Column}
use Rattle.rational.specs.Compare.{is_same}
use Rattle.cert_check.specs.Sums.{Product, are_forms, products, item_products, weight_products, form_at, with_product, with_products}
use Rattle.cert_check.specs.Totals.{with_factor, with_form, with_forms, with_weights, AreTotals}
use Rattle.cert_check.proofs.Products.{next, products_then}

-- ---- the loops

pub entry_more : (w : Rational) (es : List Entry) (i : ℕ) (e : Entry) (totals more : List Rational) (all : Result (List Rational) NoFit) → i < length es → e ≡ get_or es i e → with_form w (drop i es) totals ≡ all → with_factor w e.column e.coefficient totals ≡ Ok more → with_form w (drop (i + 1) es) more ≡ all
entry_more w es i e totals more all h is inv step =
    let start : with_form w (e ∷ drop (i + 1) es) totals ≡ all = rw (next es i e h is) at inv in
    ap (λ r. and_then r (λ ts. with_form w (drop (i + 1) es) ts)) (sym step) ∙ start

pub form_more : (f : ℕ → List Entry) (items : List Item) (i : ℕ) (it : Item) (totals more : List Rational) (all : Result (List Rational) NoFit) → i < length items → it ≡ get_or items i it → with_forms f (drop i items) totals ≡ all → with_form it.weight (f it.index) totals ≡ Ok more → with_forms f (drop (i + 1) items) more ≡ all
form_more f items i it totals more all h is inv step =
    let start : with_forms f (it ∷ drop (i + 1) items) totals ≡ all = rw (next items i it h is) at inv in
    ap (λ r. and_then r (λ ts. with_forms f (drop (i + 1) items) ts)) (sym step) ∙ start

-- ---- one product

-- a product at column j alone
abbrev here : Rational → ℕ → Rational → ℕ → List Product
here w j c k = if j == k then record { weight = w; factor = c } ∷ [] else []

here_same : (w : Rational) (j : ℕ) (c : Rational) (k : ℕ) → j ≡ k → here w j c k ≡ record { weight = w; factor = c } ∷ []
here_same w j c k q = rw (eq-eqb j k q) refl

here_other : (w : Rational) (j : ℕ) (c : Rational) (k : ℕ) → ¬ (j ≡ k) → here w j c k ≡ []
here_other w j c k d = let it : (j == k) ≡ false = grind (arith, nat_tests) in rw it refl

-- the products behind others
behind : (ps : List Product) (t : Rational) (qs : List Product) → with_products zero_ℚ ps ≡ Ok t → with_products zero_ℚ (ps ++ qs) ≡ with_products t qs
behind ps t qs h = products_then zero_ℚ ps qs ∙ ap (λ r. and_then r (λ s. with_products s qs)) h

-- totals are those of each function that has the same products
same_totals : (n : ℕ) (f g : ℕ → List Product) (totals : List Rational) → ((k : ℕ) → f k ≡ g k) → AreTotals n f totals → AreTotals n g totals
same_totals n f g totals same are = (are.0, λ k h. ap (with_products zero_ℚ) (sym (same k)) ∙ are.1 k h)

-- two steps that end well
two_steps : {A B : Type 0} (r : Result A NoFit) (f : A → Result B NoFit) (b : B) → and_then r f ≡ Ok b → (a : A) × ((r ≡ Ok a) × (f a ≡ Ok b))
two_steps (Ok a) f b h = (a, (refl, h))
two_steps (Err e) f b h = cc

same_ok : (r : Result (List Rational) NoFit) (a b : List Rational) → r ≡ Ok a → r ≡ Ok b → a ≡ b
same_ok r a b h k = cc

small : (j n : ℕ) → nat_lt j n ≡ true → j < n
small j n h = grind (arith, nat_tests)

factor_set : (n : ℕ) (f : ℕ → List Product) (totals : List Rational) (w : Rational) (j : ℕ) (c s : Rational) → AreTotals n f totals → j < length totals → with_product (get_or totals j zero_ℚ) w c ≡ Ok s → AreTotals n (λ k. f k ++ here w j c k) (set totals j s)
factor_set n f totals w j c s are less product = (length-set totals j s ∙ are.0, at)
  where
    at : (k : ℕ) → k < n → with_products zero_ℚ (f k ++ here w j c k) ≡ Ok (get_or (set totals j s) k zero_ℚ)
    at k below = elim (ℕ_discrete j k) [
      | yes q ↦
          let old : with_products zero_ℚ (f k) ≡ Ok (get_or totals j zero_ℚ) = are.1 k below ∙ ap (λ i. Ok (get_or totals i zero_ℚ)) (sym q) in
          let read : get_or (set totals j s) k zero_ℚ ≡ s = ap (λ i. get_or (set totals j s) i zero_ℚ) (sym q) ∙ get_or-set_same totals j s zero_ℚ less in
          ap (λ ps. with_products zero_ℚ (f k ++ ps)) (here_same w j c k q) ∙ behind (f k) (get_or totals j zero_ℚ) (record { weight = w; factor = c } ∷ []) old ∙ ap (λ r. and_then r (λ t. Ok t)) product ∙ ap Ok (sym read)
      | no d ↦
          let read : get_or (set totals j s) k zero_ℚ ≡ get_or totals k zero_ℚ = get_or-set_other totals j k s zero_ℚ (λ e. d (sym e)) in
          ap (λ ps. with_products zero_ℚ (f k ++ ps)) (here_other w j c k d) ∙ behind (f k) (get_or totals k zero_ℚ) [] (are.1 k below) ∙ ap Ok (sym read)
    ]

factor_past : (n : ℕ) (f : ℕ → List Product) (totals : List Rational) (w : Rational) (j : ℕ) (c : Rational) → AreTotals n f totals → nat_lt j (length totals) ≡ false → AreTotals n (λ k. f k ++ here w j c k) totals
factor_past n f totals w j c are past = (are.0, λ k below. ap (λ ps. with_products zero_ℚ (f k ++ ps)) (here_other w j c k (λ q. outside k below q)) ∙ behind (f k) (get_or totals k zero_ℚ) [] (are.1 k below))
  where
    outside : (k : ℕ) → k < n → j ≡ k → ⊥
    outside k below q = let long : ¬ (j < length totals) = grind (arith, nat_tests) in long (subst (λ m. j < m) (sym are.0) (subst (λ i. i < n) (sym q) below))

factor_totals : (n : ℕ) (f : ℕ → List Product) (totals more : List Rational) (w : Rational) (j : ℕ) (c : Rational) → AreTotals n f totals → with_factor w j c totals ≡ Ok more → AreTotals n (λ k. f k ++ here w j c k) more
factor_totals n f totals more w j c are h = go (nat_lt j (length totals)) refl h
  where
    go : (t : Bool) → nat_lt j (length totals) ≡ t → (if t then and_then (with_product (get_or totals j zero_ℚ) w c) (λ s. Ok (set totals j s)) else Ok totals) ≡ Ok more → AreTotals n (λ k. f k ++ here w j c k) more
    go true less h =
        let step = two_steps (with_product (get_or totals j zero_ℚ) w c) (λ s. Ok (set totals j s)) more h in
        subst (AreTotals n (λ k. f k ++ here w j c k)) (same_ok _ (set totals j step.0) more refl step.1.1) (factor_set n f totals w j c step.0 are (small j (length totals) less) step.1.0)
    go false past h = subst (AreTotals n (λ k. f k ++ here w j c k)) (same_ok _ totals more refl h) (factor_past n f totals w j c are past)

-- ---- forms

joined : (w : Rational) (e : Entry) (es : List Entry) (k : ℕ) → here w e.column e.coefficient k ++ products w es k ≡ products w (e ∷ es) k
joined w e es k = go (e.column == k)
  where
    go : (t : Bool) → (if t then record { weight = w; factor = e.coefficient } ∷ [] else []) ++ products w es k ≡ (if t then record { weight = w; factor = e.coefficient } ∷ products w es k else products w es k)
    go true = refl
    go false = refl

form_totals : (n : ℕ) (f : ℕ → List Product) (totals more : List Rational) (w : Rational) (es : List Entry) → AreTotals n f totals → with_form w es totals ≡ Ok more → AreTotals n (λ k. f k ++ products w es k) more
form_totals n f totals more w [] are h = subst (AreTotals n (λ k. f k ++ [])) (same_ok _ totals more refl h) (same_totals n f (λ k. f k ++ []) totals (λ k. sym (append-nil (f k))) are)
form_totals n f totals more w (e ∷ es) are h =
    let step = two_steps (with_factor w e.column e.coefficient totals) (λ ts. with_form w es ts) more h in
    let first = factor_totals n f totals step.0 w e.column e.coefficient are step.1.0 in
    let rest = form_totals n (λ k. f k ++ here w e.column e.coefficient k) step.0 more w es first step.1.1 in
    same_totals n (λ k. (f k ++ here w e.column e.coefficient k) ++ products w es k) (λ k. f k ++ products w (e ∷ es) k) more (λ k. append_assoc (f k) (here w e.column e.coefficient k) (products w es k) ∙ ap (λ ps. f k ++ ps) (joined w e es k)) rest

forms_totals : (n : ℕ) (f : ℕ → List Product) (totals more : List Rational) (form : ℕ → List Entry) (items : List Item) → AreTotals n f totals → with_forms form items totals ≡ Ok more → AreTotals n (λ k. f k ++ item_products form items k) more
forms_totals n f totals more form [] are h = subst (AreTotals n (λ k. f k ++ [])) (same_ok _ totals more refl h) (same_totals n f (λ k. f k ++ []) totals (λ k. sym (append-nil (f k))) are)
forms_totals n f totals more form (i ∷ is) are h =
    let step = two_steps (with_form i.weight (form i.index) totals) (λ ts. with_forms form is ts) more h in
    let first = form_totals n f totals step.0 i.weight (form i.index) are step.1.0 in
    let rest = forms_totals n (λ k. f k ++ products i.weight (form i.index) k) step.0 more form is first step.1.1 in
    same_totals n (λ k. (f k ++ products i.weight (form i.index) k) ++ item_products form is k) (λ k. f k ++ item_products form (i ∷ is) k) more (λ k. append_assoc (f k) (products i.weight (form i.index) k) (item_products form is k)) rest

-- ---- all weights

at_zeros : (n k : ℕ) → get_or (replicate n zero_ℚ) k zero_ℚ ≡ zero_ℚ
at_zeros zero k = refl
at_zeros (suc n) zero = refl
at_zeros (suc n) (suc k) = at_zeros n k

length_zeros : (n : ℕ) → length (replicate n zero_ℚ) ≡ n
length_zeros zero = refl
length_zeros (suc n) = ap suc (length_zeros n)

pub all_totals : (n : ℕ) (s : Setting) (w : Weights) (start totals : List Rational) → start ≡ replicate n zero_ℚ → with_weights s w start ≡ Ok totals → AreTotals n (weight_products s w) totals
all_totals n s w start totals is h =
    let none : AreTotals n (λ k. []) start = subst (AreTotals n (λ k. [])) (sym is) (length_zeros n, λ k below. ap Ok (sym (at_zeros n k))) in
    let rows = two_steps (with_forms (form_at s OfRow) w.rows start) _ totals h in
    let columns = two_steps (with_forms (form_at s OfColumn) w.columns rows.0) _ totals rows.1.1 in
    let derived = two_steps (with_forms (form_at s OfDerived) w.derived columns.0) _ totals columns.1.1 in
    let a = forms_totals n (λ k. []) start rows.0 (form_at s OfRow) w.rows none rows.1.0 in
    let b = forms_totals n (λ k. item_products (form_at s OfRow) w.rows k) rows.0 columns.0 (form_at s OfColumn) w.columns a columns.1.0 in
    let c = forms_totals n (λ k. item_products (form_at s OfRow) w.rows k ++ item_products (form_at s OfColumn) w.columns k) columns.0 derived.0 (form_at s OfDerived) w.derived b derived.1.0 in
    let d = forms_totals n (λ k. (item_products (form_at s OfRow) w.rows k ++ item_products (form_at s OfColumn) w.columns k) ++ item_products (form_at s OfDerived) w.derived k) derived.0 totals (form_at s OfSplit) w.splits c derived.1.1 in
    same_totals n (λ k. ((item_products (form_at s OfRow) w.rows k ++ item_products (form_at s OfColumn) w.columns k) ++ item_products (form_at s OfDerived) w.derived k) ++ item_products (form_at s OfSplit) w.splits k) (weight_products s w) totals (λ k. nested (item_products (form_at s OfRow) w.rows k) (item_products (form_at s OfColumn) w.columns k) (item_products (form_at s OfDerived) w.derived k) (item_products (form_at s OfSplit) w.splits k)) d
  where
    nested : (xs ys zs us : List Product) → ((xs ++ ys) ++ zs) ++ us ≡ xs ++ (ys ++ (zs ++ us))
    nested xs ys zs us = append_assoc (xs ++ ys) zs us ∙ append_assoc xs ys (zs ++ us)

-- ---- the totals against a form

one_column : (f : ℕ → List Product) (wanted : ℕ → Rational) (cs : List Column) (j : ℕ) (c : Column) (totals : List Rational) (v : Rational) (all : Result Bool NoFit) → AreTotals (length cs) f totals → j < length cs → c ≡ get_or cs j c → v ≡ get_or totals j v → are_forms f wanted j (drop j cs) ≡ all → cond (is_same v (wanted j)) (are_forms f wanted (j + 1) (drop (j + 1) cs)) (Ok false) ≡ all
one_column f wanted cs j c totals v all are h is read inv =
    let start : and_then (with_products zero_ℚ (f j)) (λ v. cond (is_same v (wanted j)) (are_forms f wanted (j + 1) (drop (j + 1) cs)) (Ok false)) ≡ all = rw (next cs j c h is) at inv in
    let here : j < length totals = subst (λ n. j < n) (sym are.0) h in
    let sum : with_products zero_ℚ (f j) ≡ Ok v = are.1 j h ∙ ap Ok (get_or_default totals j zero_ℚ v here ∙ sym read) in
    ap (λ r. and_then r (λ v. cond (is_same v (wanted j)) (are_forms f wanted (j + 1) (drop (j + 1) cs)) (Ok false))) (sym sum) ∙ start

pub totals_differ : (f : ℕ → List Product) (wanted : ℕ → Rational) (cs : List Column) (j : ℕ) (c : Column) (totals : List Rational) (v : Rational) (all : Result Bool NoFit) → AreTotals (length cs) f totals → j < length cs → c ≡ get_or cs j c → v ≡ get_or totals j v → is_same v (wanted j) ≡ false → are_forms f wanted j (drop j cs) ≡ all → Ok false ≡ all
totals_differ f wanted cs j c totals v all are h is read test inv =
    let step : cond (is_same v (wanted j)) (are_forms f wanted (j + 1) (drop (j + 1) cs)) (Ok false) ≡ all = one_column f wanted cs j c totals v all are h is read inv in
    rw test at step

pub totals_agree : (f : ℕ → List Product) (wanted : ℕ → Rational) (cs : List Column) (j : ℕ) (c : Column) (totals : List Rational) (v : Rational) (all : Result Bool NoFit) → AreTotals (length cs) f totals → j < length cs → c ≡ get_or cs j c → v ≡ get_or totals j v → is_same v (wanted j) ≡ true → are_forms f wanted j (drop j cs) ≡ all → are_forms f wanted (j + 1) (drop (j + 1) cs) ≡ all
totals_agree f wanted cs j c totals v all are h is read test inv =
    let step : cond (is_same v (wanted j)) (are_forms f wanted (j + 1) (drop (j + 1) cs)) (Ok false) ≡ all = one_column f wanted cs j c totals v all are h is read inv in
    rw test at step

pub totals_end : (f : ℕ → List Product) (wanted : ℕ → Rational) (cs : List Column) (j : ℕ) (all : Result Bool NoFit) → length cs ≤ j → are_forms f wanted j (drop j cs) ≡ all → Ok true ≡ all
totals_end f wanted cs j all h inv = ap (are_forms f wanted j) (sym (drop_all j cs h)) ∙ inv
