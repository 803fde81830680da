-- Sums from the left.
use Rattle.std.proofs.Common.{◌≡◌, ◌∙◌, ℕ, zero, suc, ◌+◌, ◌<◌, ◌≤◌, List, [], ◌∷◌, length, take, get_or, refl, sym, ap, subst, arith, Some, None, slice_get}
use mathlib.Core.Path.{ap₂}
use Rattle.std.proofs.lemmas.List.{take_all, length-map}
use Rattle.std.proofs.lemmas.Option.{slice_get_read}
use Rattle.rational.specs.Rational.{Rational, zero_ℚ, ◌+ℚ◌, ◌*ℚ◌}
use Rattle.rational.proofs.Laws as Q
use Rattle.milp.specs.Form.{Entry, value_at, number_at}
use Rattle.verdicts.specs.WeightedSums.{AllBelow}
use Rattle.basis.specs.Numbers.{sum_onto, prefix_sum, products_of}
use Rattle.fraction.specs.declared.frac.NoFit.{NoFit}
use Rattle.dictionary.specs.Sums.{IsTermFault, IsSumFault}
use Rattle.dictionary.proofs.RowNumbers.{read_number}

sum_of_products : (a : Rational) (form : List Entry) (x : ℕ → Rational) → sum_onto a (products_of form x) ≡ a +ℚ value_at x form
sum_of_products a [] x = sym (Q.add-zero a)
sum_of_products a (e ∷ form) x = sum_of_products (a +ℚ e.coefficient *ℚ x e.column) form x ∙ Q.add_assoc _ _ _

next_sum : (a : Rational) (form : List Entry) (x : ℕ → Rational) (i : ℕ) (e : Entry) → slice_get form i ≡ Some e
    → sum_onto a (take (suc i) (products_of form x)) ≡ sum_onto a (take i (products_of form x)) +ℚ e.coefficient *ℚ x e.column
next_sum a [] x i e h = absurd (none_some h)
  where
    none_some : ¬ (None ≡ Some e)
    none_some k = cc
next_sum a (d ∷ form) x zero e h = ap (λ (f : Entry). a +ℚ f.coefficient *ℚ x f.column) (same_some d e h)
  where
    same_some : (f g : Entry) → Some f ≡ Some g → f ≡ g
    same_some f g k = cc
next_sum a (d ∷ form) x (suc i) e h = next_sum (a +ℚ d.coefficient *ℚ x d.column) form x i e h

-- the entry that the loop is at
pub entry_at : (form items : List Entry) (i : ℕ) (e r : Entry) → items ≡ form → i < length items → r ≡ get_or items i r → e ≡ r → slice_get form i ≡ Some e
entry_at form items i e r same h is e_is = sym (ap (λ l. slice_get l i) same) ∙ slice_get_read items (length items) i r refl h is ∙ ap Some (sym e_is)

pub sum_more : (form : List Entry) (x : List Rational) (i : ℕ) (e : Entry) (total a next : Rational) → slice_get form i ≡ Some e → total ≡ prefix_sum (products_of form (number_at x)) i → e.column < length x → a ≡ get_or x e.column a
    → next ≡ total +ℚ e.coefficient *ℚ a → next ≡ prefix_sum (products_of form (number_at x)) (i + 1)
sum_more form x i e total a next is so_far inside read step =
    step ∙ ap₂ (λ t n. t +ℚ e.coefficient *ℚ n) so_far (read_number x e.column a inside read) ∙ sym (next_sum zero_ℚ form (number_at x) i e is) ∙ (let one : suc i ≡ i + 1 = omega arith in ap (prefix_sum (products_of form (number_at x))) one)

pub sum_all : (form : List Entry) (x : ℕ → Rational) (i : ℕ) (total : Rational) → length form ≤ i → total ≡ prefix_sum (products_of form x) i → total ≡ value_at x form
sum_all form x i total h e = e ∙ ap (sum_onto zero_ℚ) (take_all i (products_of form x) (rw (length-map form (λ (f : Entry). f.coefficient *ℚ x f.column)) h)) ∙ sum_of_products zero_ℚ form x ∙ Q.zero-add _

pub sum_fault : (form : List Entry) (x : List Rational) (i : ℕ) (e : Entry) (total a : Rational) (f : NoFit) → slice_get form i ≡ Some e → total ≡ prefix_sum (products_of form (number_at x)) i → e.column < length x → a ≡ get_or x e.column a
    → IsTermFault total e.coefficient a f → IsSumFault form (number_at x) f
sum_fault form x i e total a f is so_far inside read fault = record {
  index = i;
  entry = e;
  is_entry = is;
  fault = let P : Rational → Rational → Type 0 = λ t n. IsTermFault t e.coefficient n f in subst (λ n. P (prefix_sum (products_of form (number_at x)) i) n) (read_number x e.column a inside read) (subst (λ t. P t a) so_far fault);
}

pub entry_below : (n : ℕ) (form : List Entry) (i : ℕ) (e : Entry) → AllBelow n form → slice_get form i ≡ Some e → e.column < n
entry_below n [] i e h is = absurd (none_some is)
  where
    none_some : ¬ (None ≡ Some e)
    none_some k = cc
entry_below n (d ∷ form) zero e h is = let P : Entry → Type 0 = λ f. f.column < n in subst P (same_some d e is) h.0
  where
    same_some : (f g : Entry) → Some f ≡ Some g → f ≡ g
    same_some f g k = cc
entry_below n (d ∷ form) (suc i) e h is = entry_below n form i e h.1 is
