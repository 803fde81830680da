-- Forms that are sums of weights from 0 on, on the forms of a list.
use Rattle.std.proofs.Common.{◌≡◌, ◌∙◌, ℕ, suc, List, [], ◌∷◌, ◌++◌, refl, sym, ap, length, ◌⊎◌, inl, inr, arith}
use mathlib.Core.Path.{ap₂}
use Rattle.rational.specs.Rational.{Rational, ◌≤ℚ◌, ◌+ℚ◌, ◌*ℚ◌, zero_ℚ, one_ℚ}
use Rattle.rational.proofs.Laws as Q
use Rattle.rational.proofs.Laws.{field}
use Rattle.milp.specs.Form.{Entry}
use Rattle.verdicts.specs.WeightedSums.{scaled, coefficient_of}
use Rattle.verdicts.proofs.Laws.{le_by, coefficient-append, coefficient-scaled}
use Rattle.ranging.specs.TightBounds.{weighted_sum, AllNonNegative}
use Rattle.ranging.proofs.Mixtures.{mixed, mixed_size, zero_mixed}

pub record IsSpanned (fs : List (List Entry)) (form : List Entry) : Type 0 where
  pub weights : List Rational
  pub size : length weights ≡ length fs
  pub signs : AllNonNegative weights
  pub same : (k : ℕ) → coefficient_of (weighted_sum weights fs) k ≡ coefficient_of form k

abbrev pub IsOneOf : List Entry → List (List Entry) → Type 0
IsOneOf f [] = ⊥
IsOneOf f (g ∷ gs) = (f ≡ g) ⊎ IsOneOf f gs

-- ---- no weight

zeros : List (List Entry) → List Rational
zeros [] = []
zeros (f ∷ fs) = zero_ℚ ∷ zeros fs

length-zeros : (fs : List (List Entry)) → length (zeros fs) ≡ length fs
unfolding zeros
length-zeros [] = refl
length-zeros (f ∷ fs) = ap suc (length-zeros fs)

signs-zeros : (fs : List (List Entry)) → AllNonNegative (zeros fs)
unfolding zeros
signs-zeros [] = tt
signs-zeros (f ∷ fs) = (Q.le_refl zero_ℚ, signs-zeros fs)

split : (w : Rational) (f : List Entry) (ws : List Rational) (fs : List (List Entry)) (k : ℕ) → coefficient_of (weighted_sum (w ∷ ws) (f ∷ fs)) k ≡ w *ℚ coefficient_of f k +ℚ coefficient_of (weighted_sum ws fs) k
split w f ws fs k = coefficient-append (scaled w f) (weighted_sum ws fs) k ∙ ap (λ v. v +ℚ coefficient_of (weighted_sum ws fs) k) (coefficient-scaled w f k)

sum-zeros : (fs : List (List Entry)) (k : ℕ) → coefficient_of (weighted_sum (zeros fs) fs) k ≡ zero_ℚ
unfolding zeros
sum-zeros [] k = refl
sum-zeros (f ∷ fs) k = split zero_ℚ f (zeros fs) fs k ∙ ap₂ ◌+ℚ◌ (Q.zero-mul _) (sum-zeros fs k) ∙ Q.add-zero zero_ℚ

pub nothing_spanned : (fs : List (List Entry)) (form : List Entry) → ((k : ℕ) → coefficient_of form k ≡ zero_ℚ) → IsSpanned fs form
nothing_spanned fs form h = record { weights = zeros fs; size = length-zeros fs; signs = signs-zeros fs; same = λ k. sum-zeros fs k ∙ sym (h k) }

-- ---- one of the forms

pub one_spanned : (w : Rational) (f : List Entry) (fs : List (List Entry)) → zero_ℚ ≤ℚ w → IsOneOf f fs → IsSpanned fs (scaled w f)
one_spanned w f [] h never = absurd never
one_spanned w f (g ∷ gs) h m = elim m [
  | inl e ↦ record {
    weights = w ∷ zeros gs;
    size = ap suc (length-zeros gs);
    signs = (h, signs-zeros gs);
    same = λ k. split w g (zeros gs) gs k ∙ ap (λ v. w *ℚ coefficient_of g k +ℚ v) (sum-zeros gs k) ∙ Q.add-zero _ ∙ ap (λ y. w *ℚ coefficient_of y k) (sym e) ∙ sym (coefficient-scaled w f k);
  }
  | inr r ↦
      let rest = one_spanned w f gs h r in
      record {
        weights = zero_ℚ ∷ rest.weights;
        size = ap suc rest.size;
        signs = (Q.le_refl zero_ℚ, rest.signs);
        same = λ k. split zero_ℚ g rest.weights gs k ∙ ap₂ ◌+ℚ◌ (Q.zero-mul _) (rest.same k) ∙ Q.zero-add _;
      }
]

-- ---- two together

coefficient-mixed : (k l : Rational) (ws vs : List Rational) (fs : List (List Entry)) (i : ℕ) → length ws ≡ length vs → coefficient_of (weighted_sum (mixed k l ws vs) fs) i ≡ k *ℚ coefficient_of (weighted_sum ws fs) i +ℚ l *ℚ coefficient_of (weighted_sum vs fs) i
coefficient-mixed k l [] [] fs i e = zero_mixed k l
coefficient-mixed k l [] (v ∷ vs) fs i e = absurd (omega arith)
coefficient-mixed k l (w ∷ ws) [] fs i e = absurd (omega arith)
coefficient-mixed k l (w ∷ ws) (v ∷ vs) [] i e = zero_mixed k l
coefficient-mixed k l (w ∷ ws) (v ∷ vs) (f ∷ fs) i e =
    split (k *ℚ w +ℚ l *ℚ v) f (mixed k l ws vs) fs i
    ∙ ap (λ y. (k *ℚ w +ℚ l *ℚ v) *ℚ coefficient_of f i +ℚ y) (coefficient-mixed k l ws vs fs i (omega arith))
    ∙ parts k l w v (coefficient_of f i) (coefficient_of (weighted_sum ws fs) i) (coefficient_of (weighted_sum vs fs) i)
    ∙ sym (ap₂ (λ a b. k *ℚ a +ℚ l *ℚ b) (split w f ws fs i) (split v f vs fs i))
  where
    parts : (k l w v c a b : Rational) → (k *ℚ w +ℚ l *ℚ v) *ℚ c +ℚ (k *ℚ a +ℚ l *ℚ b) ≡ k *ℚ (w *ℚ c +ℚ a) +ℚ l *ℚ (v *ℚ c +ℚ b)
    parts k l w v c a b = simp field

ones : (a b : Rational) → one_ℚ *ℚ a +ℚ one_ℚ *ℚ b ≡ a +ℚ b
ones a b = ap₂ ◌+ℚ◌ (Q.one-mul a) (Q.one-mul b)

signs-added : (ws vs : List Rational) → length ws ≡ length vs → AllNonNegative ws → AllNonNegative vs → AllNonNegative (mixed one_ℚ one_ℚ ws vs)
signs-added [] vs e h g = tt
signs-added (w ∷ ws) [] e h g = tt
signs-added (w ∷ ws) (v ∷ vs) e h g = (le_by _ _ _ _ (sym (Q.add-zero zero_ℚ)) (ones w v) (Q.add-le-add _ _ _ _ h.0 g.0), signs-added ws vs (omega arith) h.1 g.1)

pub both_spanned : (fs : List (List Entry)) (f g : List Entry) → IsSpanned fs f → IsSpanned fs g → IsSpanned fs (f ++ g)
both_spanned fs f g h i =
    let e : length h.weights ≡ length i.weights = h.size ∙ sym i.size in
    record {
      weights = mixed one_ℚ one_ℚ h.weights i.weights;
      size = mixed_size one_ℚ one_ℚ h.weights i.weights e ∙ h.size;
      signs = signs-added h.weights i.weights e h.signs i.signs;
      same = λ k. coefficient-mixed one_ℚ one_ℚ h.weights i.weights fs k e ∙ ones _ _ ∙ ap₂ ◌+ℚ◌ (h.same k) (i.same k) ∙ sym (coefficient-append f g k);
    }

pub same_spanned : (fs : List (List Entry)) (f g : List Entry) → ((k : ℕ) → coefficient_of f k ≡ coefficient_of g k) → IsSpanned fs f → IsSpanned fs g
same_spanned fs f g e h = record { weights = h.weights; size = h.size; signs = h.signs; same = λ k. h.same k ∙ e k }
