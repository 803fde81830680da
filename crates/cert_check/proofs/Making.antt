-- Where all operations fit, the sums by column are those of the form that weights make.
use Rattle.std.proofs.Common.{◌≡◌, ◌∙◌, ℕ, List, [], ◌∷◌, ◌++◌, length, append-nil, refl, sym, ap, subst, Bool, Result, IfOk}
use mathlib.Core.Path.{ap₂}
use Rattle.rational.specs.Rational.{Rational, one_ℚ, ◌+ℚ◌}
use Rattle.fraction.specs.declared.frac.NoFit.{NoFit}
use Rattle.milp.specs.Form.{Entry}
use Rattle.verdicts.specs.Certificate.{Item, Weights}
use Rattle.verdicts.specs.WeightedSums.{scaled, coefficient_of}
use Rattle.verdicts.specs.Proves.{same_form}
use Rattle.verdicts.proofs.Laws.{coefficient-append, coefficient-scaled}
use Rattle.cert_check.specs.Setting.{Setting}
use Rattle.cert_check.specs.Sums.{products, form_at, item_products, weight_products, are_forms}
use Rattle.cert_check.specs.Made.{of_items, row_forms, column_forms, derived_forms, made_form}
use Rattle.cert_check.specs.declared.kind.Kind.TheVariants.{OfRow, OfColumn, OfDerived, OfSplit}
use Rattle.cert_check.proofs.Exact.{product_sum, sum-none, sum-append, sum-products, forms_ok}

items_made : (f : ℕ → List Entry) (items : List Item) (j : ℕ) → product_sum (item_products f items j) ≡ coefficient_of (of_items f items) j
items_made f [] j = sum-none
items_made f (i ∷ is) j =
    sum-append (products i.weight (f i.index) j) (item_products f is j)
    ∙ ap₂ (λ a b. a +ℚ b) (sum-products i.weight (f i.index) j ∙ sym (coefficient-scaled i.weight (f i.index) j)) (items_made f is j)
    ∙ sym (coefficient-append (scaled i.weight (f i.index)) (of_items f is) j)

all_made : (s : Setting) (w : Weights) (j : ℕ) → w.splits ≡ [] → product_sum (weight_products s w j) ≡ coefficient_of (made_form s w) j
all_made s w j none =
    let rows = item_products (form_at s OfRow) w.rows j in
    let columns = item_products (form_at s OfColumn) w.columns j in
    let derived = item_products (form_at s OfDerived) w.derived j in
    let last : derived ++ item_products (form_at s OfSplit) w.splits j ≡ derived = ap (λ items. derived ++ item_products (form_at s OfSplit) items j) none ∙ append-nil derived in
    ap (λ ps. product_sum (rows ++ (columns ++ ps))) last
    ∙ sum-append rows (columns ++ derived)
    ∙ ap₂ (λ a b. a +ℚ b) (items_made (form_at s OfRow) w.rows j) (sum-append columns derived ∙ ap₂ (λ a b. a +ℚ b) (items_made (form_at s OfColumn) w.columns j) (items_made (form_at s OfDerived) w.derived j) ∙ sym (coefficient-append (of_items column_forms w.columns) (of_items (derived_forms s) w.derived) j))
    ∙ sym (coefficient-append (of_items (row_forms s) w.rows) (of_items column_forms w.columns ++ of_items (derived_forms s) w.derived) j)

pub made_ok : (s : Setting) (w : Weights) (form : List Entry) → w.splits ≡ [] → IfOk (are_forms (weight_products s w) (coefficient_of form) 0 s.problem.columns) (λ b. b ≡ same_form (length s.problem.columns) (made_form s w) form)
made_ok s w form none = forms_ok (weight_products s w) (coefficient_of form) s.problem.columns (made_form s w) form (λ j. all_made s w j none) (λ j. refl)

pub column_made : (s t : Setting) (w : Weights) (j : ℕ) (one : Rational) (r : Result Bool NoFit) → w.splits ≡ [] → s ≡ t → one ≡ one_ℚ → r ≡ are_forms (weight_products s w) (coefficient_of (record { column = j; coefficient = one } ∷ [])) 0 s.problem.columns
    → IfOk r (λ b. b ≡ same_form (length t.problem.columns) (made_form t w) (record { column = j; coefficient = one_ℚ } ∷ []))
column_made s t w j one r none e f h =
    let R : Result Bool NoFit → Type 0 = λ a. IfOk a (λ b. b ≡ same_form (length s.problem.columns) (made_form s w) (record { column = j; coefficient = one } ∷ [])) in
    let S : Setting → Type 0 = λ u. IfOk r (λ b. b ≡ same_form (length u.problem.columns) (made_form u w) (record { column = j; coefficient = one } ∷ [])) in
    let O : Rational → Type 0 = λ v. IfOk r (λ b. b ≡ same_form (length t.problem.columns) (made_form t w) (record { column = j; coefficient = v } ∷ [])) in
    subst O f (subst S e (subst R (sym h) (made_ok s w (record { column = j; coefficient = one } ∷ []) none)))
