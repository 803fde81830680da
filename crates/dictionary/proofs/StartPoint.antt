-- The numbers of the variables at the start of a run.
use Rattle.std.proofs.Common.{◌≡◌, ◌∙◌, ℕ, ◌+◌, ◌<◌, ◌≤◌, List, [], ◌∷◌, ◌++◌, length, get_or, set, refl, sym, ap, subst, arith, Option, Some, IfSome, slice_get}
use Rattle.std.specs.Prelude.{option_and_then}
use mathlib.Core.Path.{ap₂}
use Rattle.std.proofs.lemmas.List.{length-set, get_or-set_same, get_or-set_other, length-append, get_or_append_left, get_or-append-add, get_or_default}
use Rattle.std.proofs.lemmas.Option.{slice_get-get_or}
use Rattle.std.proofs.Math.Decide.{ℕ_discrete}
use Rattle.rational.specs.Rational.{Rational, zero_ℚ, ◌*ℚ◌}
use Rattle.milp.specs.Form.{Entry, value_at, number_at}
use Rattle.verdicts.specs.WeightedSums.{AllBelow}
use Rattle.basis.specs.System.{Bounds, System, IsSystem, size, lower_of, upper_of}
use Rattle.basis.specs.Bland.{first_number, start_point}
use Rattle.basis.specs.Numbers.{products_of, prefix_sum}
use Rattle.basis.proofs.Laws.{same_below, extended_satisfies}
use Rattle.fraction.specs.declared.frac.NoFit.{NoFit}
use Rattle.dictionary.specs.Sums.{IsTermFault, IsSumFault, IsStartFault, AreLonger, AreFirstNumbers}
use Rattle.dictionary.proofs.SumLemmas.{entry_below}

-- ---- columns

pub none_longer : (old : List Rational) → AreLonger old 0 old
none_longer old = record { size = omega arith; kept = λ v h. refl }

pub one_more_number : (s : System) (values : List Rational) (i : ℕ) (b : Bounds) (a : Rational) → length values ≡ i → slice_get s.bounds i ≡ Some b → a ≡ first_number b.lower b.upper
    → ((v : ℕ) → v < i → number_at values v ≡ first_number (lower_of s v) (upper_of s v))
    → (length (values ++ a ∷ []) ≡ i + 1) × ((v : ℕ) → v < i + 1 → number_at (values ++ a ∷ []) v ≡ first_number (lower_of s v) (upper_of s v))
one_more_number s values i b a same e f all = (length-append values (a ∷ []) ∙ (omega arith), each)
  where
    last : number_at (values ++ a ∷ []) i ≡ first_number (lower_of s i) (upper_of s i)
    last = let g : i ≡ length values + 0 = omega arith in ap (number_at (values ++ a ∷ [])) g ∙ get_or-append-add values (a ∷ []) 0 zero_ℚ ∙ f
        ∙ sym (ap₂ first_number (ap (option_and_then (λ (c : Bounds). c.lower)) e) (ap (option_and_then (λ (c : Bounds). c.upper)) e))

    each : (v : ℕ) → v < i + 1 → number_at (values ++ a ∷ []) v ≡ first_number (lower_of s v) (upper_of s v)
    each v h = elim (ℕ_discrete v i) [
      | yes at ↦ let P : ℕ → Type 0 = λ m. number_at (values ++ a ∷ []) m ≡ first_number (lower_of s m) (upper_of s m) in subst P (sym at) last
      | no n ↦ get_or_append_left values (a ∷ []) zero_ℚ v (omega arith) ∙ all v (omega arith)
    ]

pub first_numbers : (s : System) (n m : ℕ) (values new : List Rational) → n ≡ s.columns → m ≡ length s.forms → length values ≡ n → ((v : ℕ) → v < n → number_at values v ≡ first_number (lower_of s v) (upper_of s v))
    → AreLonger values m new → AreFirstNumbers s new
first_numbers s n m values new e f same all h = record { size = h.size ∙ (omega arith); columns = λ v k. h.kept v (omega arith) ∙ all v (omega arith) }

-- ---- points that agree on the columns

products_alike : (n : ℕ) (form : List Entry) (x y : ℕ → Rational) → ((v : ℕ) → v < n → x v ≡ y v) → AllBelow n form → products_of form x ≡ products_of form y
products_alike n [] x y h k = refl
products_alike n (e ∷ form) x y h k = ap₂ (λ a l. (e.coefficient *ℚ a) ∷ l) (h e.column k.0) (products_alike n form x y h k.1)

fault_alike : (n : ℕ) (form : List Entry) (x y : ℕ → Rational) (e : NoFit) → ((v : ℕ) → v < n → x v ≡ y v) → AllBelow n form → IsSumFault form x e → IsSumFault form y e
fault_alike n form x y e h k f = record {
  index = f.index;
  entry = f.entry;
  is_entry = f.is_entry;
  fault =
      let P : List Rational → Rational → Type 0 = λ l a. IsTermFault (prefix_sum l f.index) f.entry.coefficient a e in
      subst (λ a. P (products_of form y) a) (h f.entry.column (entry_below n form f.index f.entry k f.is_entry)) (subst (λ l. P l (x f.entry.column)) (products_alike n form x y h k) f.fault);
}

-- ---- forms

form_is : (s : System) (k : ℕ) → k < length s.forms → slice_get s.forms k ≡ Some (get_or s.forms k [])
form_is s k h = slice_get-get_or s.forms k [] h

form_under : (s : System) (k : ℕ) → IsSystem s → k < length s.forms → AllBelow s.columns (get_or s.forms k [])
form_under s k h l = let P : Option (List Entry) → Type 0 = λ o. IfSome o (AllBelow s.columns) in subst P (form_is s k l) (h.forms k)

start_form : (s : System) (k : ℕ) → IsSystem s → k < length s.forms → start_point s (s.columns + k) ≡ value_at (start_point s) (get_or s.forms k [])
start_form s k h l =
    let P : Option (List Entry) → Type 0 = λ o. IfSome o (λ f. start_point s (s.columns + k) ≡ value_at (start_point s) f) in
    subst P (form_is s k l) ((extended_satisfies s (λ j. first_number (lower_of s j) (upper_of s j)) h).values k)

pub below_wider : (n m : ℕ) (form : List Entry) → n ≤ m → AllBelow n form → AllBelow m form
below_wider n m [] h k = tt
below_wider n m (e ∷ form) h k = ((let l = k.0 in omega arith), below_wider n m form h k.1)

pub start_more : (s : System) (values : List Rational) (n k : ℕ) (form : List Entry) (a : Rational) → IsSystem s → n ≡ s.columns → k < length s.forms → form ≡ get_or s.forms k [] → a ≡ value_at (number_at values) form
    → (length values ≡ size s) × ((v : ℕ) → v < n + k → number_at values v ≡ start_point s v)
    → (length (set values (n + k) a) ≡ size s) × ((v : ℕ) → v < n + (k + 1) → number_at (set values (n + k) a) v ≡ start_point s v)
start_more s values n k form a h e l f g (same, all) = (length-set values (n + k) a ∙ same, each)
  where
    value : a ≡ start_point s (n + k)
    value = g ∙ ap (value_at (number_at values)) f
        ∙ same_below s.columns (number_at values) (start_point s) (get_or s.forms k []) (λ v m. all v (omega arith)) (form_under s k h l)
        ∙ sym (start_form s k h l) ∙ ap (λ j. start_point s (j + k)) (sym e)

    each : (v : ℕ) → v < n + (k + 1) → number_at (set values (n + k) a) v ≡ start_point s v
    each v m = elim (ℕ_discrete v (n + k)) [
      | yes at ↦ let P : ℕ → Type 0 = λ j. number_at (set values (n + k) a) j ≡ start_point s j in subst P (sym at) (get_or-set_same values (n + k) a zero_ℚ (omega arith) ∙ value)
      | no w ↦ get_or-set_other values (n + k) v a zero_ℚ w ∙ all v (omega arith)
    ]

pub start_fault : (s : System) (values : List Rational) (n k : ℕ) (form : List Entry) (e : NoFit) → IsSystem s → n ≡ s.columns → k < length s.forms → form ≡ get_or s.forms k []
    → (length values ≡ size s) × ((v : ℕ) → v < n + k → number_at values v ≡ start_point s v) → IsSumFault form (number_at values) e → IsStartFault s e
start_fault s values n k form e h n_is l f (same, all) fault = record {
  index = k;
  form = get_or s.forms k [];
  is_form = form_is s k l;
  fault = fault_alike s.columns (get_or s.forms k []) (number_at values) (start_point s) e (λ v m. all v (omega arith)) (form_under s k h l)
      (let P : List Entry → Type 0 = λ g. IsSumFault g (number_at values) e in subst P f fault);
}

-- ---- the form that was read

pub form_read : (s : System) (forms : List (List Entry)) (k : ℕ) (form r : List Entry) → forms ≡ s.forms → k < length forms → form ≡ r → r ≡ get_or forms k r → form ≡ get_or s.forms k []
form_read s forms k form r e h f is = f ∙ is ∙ get_or_default forms k r [] h ∙ ap (λ fs. get_or fs k []) e

pub form_known : (s : System) (forms : List (List Entry)) (k : ℕ) → forms ≡ s.forms → k < length forms → k < length s.forms
form_known s forms k e h = let P : List (List Entry) → Type 0 = λ fs. k < length fs in subst P e h

pub form_over : (s : System) (form : List Entry) (values : List Rational) (k : ℕ) → IsSystem s → k < length s.forms → form ≡ get_or s.forms k [] → length values ≡ size s → AllBelow (length values) form
form_over s form values k h l is same = let P : List Entry → Type 0 = AllBelow (length values) in subst P (sym is) (below_wider s.columns (length values) (get_or s.forms k []) (omega arith) (form_under s k h l))
