-- A leaf's weights, restored, have the sums that they had.
use Rattle.std.proofs.Common.{◌≡◌, ◌∙◌, ℕ, ◌-◌, ◌<◌, ◌≤◌, List, [], ◌∷◌, Bool, true, false, refl, sym, ap, Option, Some, None, slice_get, option_and_then, length, if◌then◌else◌}
use Rattle.std.specs.Prelude.{nat_lt}
use Rattle.std.proofs.lemmas.Bool.{ltb-true, ltb-false}
use Rattle.rational.specs.Rational.{Rational, ◌+ℚ◌, ◌*ℚ◌, zero_ℚ}
use Rattle.rational.specs.Compare.{is_less}
use Rattle.rational.proofs.Laws.{field}
use Rattle.milp.specs.Form.{value_at}
use Rattle.milp.specs.Problem.{Row, Problem}
use Rattle.verdicts.specs.WeightedSums.{Weighted, combined, combined_bound}
use Rattle.verdicts.specs.Certificate.{Item, Weights, Side, Derived}
use Rattle.verdicts.specs.Proves.{term, row_term, column_term, derived_term, split_term, joined, gathered, terms}
use Rattle.verdicts.specs.SplitRows.{first_items}
use Rattle.row_columns.specs.Restored.{items_behind}
use Rattle.row_columns.proofs.RestoredSums.{Move, TermRestores, Restores, combined_value, joined_restored, gathered_restored}
use Rattle.cut_rows.specs.CutProblem.{IsCutProblem}
use Rattle.cut_rows.specs.Restored.{restored_weights}
use Rattle.cut_rows.proofs.CutParts.{IsCutAt, row_of_problem, row_of_cut}

-- points stay as they are
abbrev pub unmoved : Move
unmoved y = y

-- ---- sums in another order

same_term : (t : Option Weighted) → TermRestores unmoved t t
same_term None = tt
same_term (Some t) = record { value = λ y. refl; bound = refl }

same_sum : (o : Option (List Weighted)) → Restores unmoved o o
same_sum None = tt
same_sum (Some ts) = record { value = λ y. refl; bound = refl }

then_restored : (a b c : Option (List Weighted)) → Restores unmoved a b → Restores unmoved b c → Restores unmoved a c
then_restored None b c h k = tt
then_restored (Some ts) None c h k = absurd h
then_restored (Some ts) (Some us) None h k = k
then_restored (Some ts) (Some us) (Some vs) h k = record { value = λ y. k.value y ∙ h.value y; bound = k.bound ∙ h.bound }

three : (a b c : Rational) → a +ℚ (b +ℚ c) ≡ b +ℚ (a +ℚ c)
three a b c = simp field

swapped : (t u : Option Weighted) (o : Option (List Weighted)) → Restores unmoved (joined t (joined u o)) (joined u (joined t o))
swapped None u o = tt
swapped (Some t) None o = tt
swapped (Some t) (Some u) None = tt
swapped (Some t) (Some u) (Some ts) = record {
  value = λ y. both y u t ts ∙ three (u.weight *ℚ value_at y u.form) (t.weight *ℚ value_at y t.form) (value_at y (combined ts)) ∙ sym (both y t u ts);
  bound = three (u.weight *ℚ u.bound) (t.weight *ℚ t.bound) (combined_bound ts);
}
  where
    both : (y : ℕ → Rational) (t u : Weighted) (ts : List Weighted) → value_at y (combined (t ∷ u ∷ ts)) ≡ t.weight *ℚ value_at y t.form +ℚ (u.weight *ℚ value_at y u.form +ℚ value_at y (combined ts))
    both y t u ts = combined_value y t (u ∷ ts) ∙ ap (λ v. t.weight *ℚ value_at y t.form +ℚ v) (combined_value y u ts)

-- a term may stand behind others
moved_in : (f : Item → Option Weighted) (is : List Item) (t : Option Weighted) (o : Option (List Weighted)) → Restores unmoved (joined t (gathered f is o)) (gathered f is (joined t o))
moved_in f [] t o = same_sum (joined t o)
moved_in f (i ∷ is) t o = then_restored (joined t (joined (f i) (gathered f is o))) (joined (f i) (joined t (gathered f is o))) (joined (f i) (gathered f is (joined t o))) (swapped t (f i) (gathered f is o)) (joined_restored unmoved (f i) (f i) (joined t (gathered f is o)) (gathered f is (joined t o)) (same_term (f i)) (moved_in f is t o))

-- also behind two lists of them
behind_both : (f g : Item → Option Weighted) (is js : List Item) (t : Option Weighted) (o : Option (List Weighted)) → Restores unmoved (joined t (gathered f is (gathered g js o))) (gathered f is (gathered g js (joined t o)))
behind_both f g is js t o = then_restored (joined t (gathered f is (gathered g js o))) (gathered f is (joined t (gathered g js o))) (gathered f is (gathered g js (joined t o))) (moved_in f is t (gathered g js o)) (gathered_restored unmoved f f is (joined t (gathered g js o)) (gathered g js (joined t o)) (λ i. same_term (f i)) (moved_in g js t o))

-- ---- rows

row_before : (p q : Problem) (cuts : List Derived) → IsCutProblem p cuts q → (i : Item) → i.index < length p.rows → TermRestores unmoved (row_term q i) (row_term p i)
row_before p q cuts h i k = rw (row_of_problem p q cuts h i.index k) (same_term (row_term p i))

-- the weight of a cut's row is one of the derived row
row_behind : (p q : Problem) (cuts : List Derived) → IsCutProblem p cuts q → (i : Item) → length p.rows ≤ i.index → TermRestores unmoved (row_term q i) (derived_term cuts (record { index = i.index - length p.rows; weight = i.weight }))
row_behind p q cuts h i k = go (slice_get cuts (i.index - length p.rows)) (slice_get q.rows i.index) (is_less zero_ℚ i.weight) (row_of_cut p q cuts h i.index k)
  where
    go : (d : Option Derived) (r : Option Row) (b : Bool) → IsCutAt d r → TermRestores unmoved (option_and_then (λ (r : Row). term i.weight r.entries (if b then r.lower else r.upper)) r) (if b then option_and_then (λ (d : Derived). term i.weight d.form (Some d.bound)) d else None)
    go None None b t = tt
    go None (Some r) b t = absurd t
    go (Some d) None b t = absurd t
    go (Some d) (Some r) true t = rw (t.lower, t.entries) (same_term (term i.weight d.form (Some d.bound)))
    go (Some d) (Some r) false t = let e = t.upper in rw e tt

-- the rows of the cuts come behind the columns, as derived rows
rows_restored : (p q : Problem) (cuts : List Derived) → IsCutProblem p cuts q → (f : Item → Option Weighted) (js is : List Item) (o r : Option (List Weighted)) → Restores unmoved o (gathered f js r) → Restores unmoved (gathered (row_term q) is o) (gathered (row_term p) (first_items (length p.rows) is) (gathered f js (gathered (derived_term cuts) (items_behind (length p.rows) is) r)))
rows_restored p q cuts h f js [] o r k = k
rows_restored p q cuts h f js (i ∷ is) o r k = go (nat_lt i.index (length p.rows)) refl (rows_restored p q cuts h f js is o r k)
  where
    there : Item
    there = record { index = i.index - length p.rows; weight = i.weight }

    left : Option (List Weighted)
    left = gathered (row_term q) is o

    behind : Option (List Weighted)
    behind = gathered (derived_term cuts) (items_behind (length p.rows) is) r

    go : (b : Bool) → nat_lt i.index (length p.rows) ≡ b → Restores unmoved left (gathered (row_term p) (first_items (length p.rows) is) (gathered f js behind)) → Restores unmoved (joined (row_term q i) left) (gathered (row_term p) (if b then i ∷ first_items (length p.rows) is else first_items (length p.rows) is) (gathered f js (gathered (derived_term cuts) (if b then items_behind (length p.rows) is else there ∷ items_behind (length p.rows) is) r)))
    go true e t = joined_restored unmoved (row_term q i) (row_term p i) left (gathered (row_term p) (first_items (length p.rows) is) (gathered f js behind)) (row_before p q cuts h i (ltb-true _ _ e)) t
    go false e t =
        let firsts = first_items (length p.rows) is in
        let d = derived_term cuts there in
        then_restored (joined (row_term q i) left) (joined d (gathered (row_term p) firsts (gathered f js behind))) (gathered (row_term p) firsts (gathered f js (joined d behind)))
        (joined_restored unmoved (row_term q i) d left (gathered (row_term p) firsts (gathered f js behind)) (row_behind p q cuts h i (ltb-false _ _ e)) t)
        (behind_both (row_term p) f firsts js d behind)

-- ---- all weights of a leaf

column_restored : (p q : Problem) (cuts : List Derived) → IsCutProblem p cuts q → (i : Item) → TermRestores unmoved (column_term q [] i) (column_term p [] i)
column_restored p q cuts h i = let e = h.columns in rw e (same_term (column_term p [] i))

-- there are no derived rows to weigh
none_derived : (is : List Item) (o : Option (List Weighted)) → Restores unmoved (gathered (derived_term []) is o) o
none_derived [] o = same_sum o
none_derived (i ∷ is) o = go (is_less zero_ℚ i.weight)
  where
    go : (b : Bool) → Restores unmoved (joined (if b then None else None) (gathered (derived_term []) is o)) o
    go true = tt
    go false = tt

pub terms_restored : (p q : Problem) (cuts : List Derived) → IsCutProblem p cuts q → (sides : List Side) (w : Weights) → Restores unmoved (terms q [] [] sides w) (terms p cuts [] sides (restored_weights p w))
terms_restored p q cuts h sides w =
    let splits = gathered (split_term sides) w.splits (Some []) in
    rows_restored p q cuts h (column_term p []) w.columns w.rows (gathered (column_term q []) w.columns (gathered (derived_term []) w.derived splits)) splits
    (gathered_restored unmoved (column_term q []) (column_term p []) w.columns (gathered (derived_term []) w.derived splits) splits (column_restored p q cuts h) (none_derived w.derived splits))
