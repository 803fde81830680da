-- Rows of which the entries alone are kept: their numbers, a row solved, and a row put in.
use Rattle.std.proofs.Common.{◌≡◌, ◌∙◌, ℕ, zero, suc, ◌+◌, ◌<◌, ◌≤◌, ◌≢◌, ◌==◌, List, [], ◌∷◌, length, get_or, set, take, drop, map, ◌++◌, ◌-◌, refl, sym, ap, subst, arith, true, false, Bool}
use Rattle.std.specs.Prelude.{cond, negsuc, pos, slice_get, Some, Result, Ok, Err, OnOk}
use Rattle.std.specs.List.{remove}
use Rattle.std.proofs.lemmas.List.{get_or_past, take_all, length-drop}
use Rattle.std.proofs.lemmas.List.Edits.{map_over_more}
use Rattle.std.proofs.lemmas.Option.{get_or_from_slice_get, slice_get_within}
use Rattle.std.proofs.lemmas.Bool.Decides.{nat_tests}
use Rattle.std.proofs.Math.Decide.{ℕ_discrete, dec_lt}
use mathlib.Core.Path.{ap₂}
use Rattle.rational.specs.Rational.{Rational, zero_ℚ, whole, neg_ℚ, inv_ℚ, ◌+ℚ◌, ◌*ℚ◌, ◌/ℚ◌}
use Rattle.rational.specs.Compare.{is_zero}
use Rattle.rational.proofs.Laws as Q
use Rattle.milp.specs.Form.{Entry, number_at}
use Rattle.verdicts.specs.WeightedSums.{AllBelow, coefficient_of}
use Rattle.verdicts.proofs.Laws.{neg-zero}
use Rattle.basis.proofs.Laws as B
use Rattle.fraction.specs.declared.frac.NoFit.{NoFit}
use Rattle.dictionary.specs.Ascending.{IsAscending}
use Rattle.dictionary.specs.Faults.{IfNoFit}
use Rattle.dictionary.specs.declared.fault.Fault.{Fault}
use Rattle.dictionary.specs.declared.fault.Fault.TheVariants.{NoFit as no_fit, NoMemory as no_memory}
use Rattle.dictionary.specs.Rows.{IsSolved, IsSubstituted, IsQuotient, IsSolvingFault, IsProductOrSum, IsSubstitutionFault}
use Rattle.dictionary.specs.Start.{IsDense}
use Rattle.dictionary.specs.Sparse.{numbers_of, dividend_of, solved_entry, IsMerged, IsMergeFault}
use Rattle.dictionary.proofs.EntryLists.{skipped, taken, beyond, below_at, coefficient_at, found_behind, removed, IsWithout}
use Rattle.dictionary.proofs.RowNumbers.{minus_one_over}

-- ---- the numbers of a row

length-numbers : (width : ℕ) (form : List Entry) → length (numbers_of width form) ≡ width
length-numbers width form = B.length-numbers 0 width (coefficient_of form)

number_within : (width : ℕ) (form : List Entry) (j : ℕ) → j < width → number_at (numbers_of width form) j ≡ coefficient_of form j
number_within width form j h = B.numbers-below width (coefficient_of form) j h

number_is : (width : ℕ) (form : List Entry) (j : ℕ) → AllBelow width form → number_at (numbers_of width form) j ≡ coefficient_of form j
number_is width form j h = elim (dec_lt j width) [
  | yes inside ↦ number_within width form j inside
  | no past ↦ get_or_past (numbers_of width form) j zero_ℚ (rw (length-numbers width form) (let far : width ≤ j = omega arith in far)) ∙ sym (beyond width form j h (omega arith))
]

-- the row of a form's entries
pub dense_row : (width : ℕ) (form entries : List Entry) → entries ≡ form → IsDense width form (numbers_of width entries)
dense_row width form entries is = subst (λ (es : List Entry). IsDense width form (numbers_of width es)) (sym is) (record { size = length-numbers width form; numbers = number_within width form })

-- ---- a row solved

solved_ascending : (a : ℕ) (form : List Entry) (at : ℕ) (k : Rational) → IsAscending a form → IsAscending a (map (solved_entry at k) form)
solved_ascending a [] at k h = tt
solved_ascending a (e ∷ es) at k h = (h.0, solved_ascending (e.column + 1) es at k h.1)

solved_below : (n : ℕ) (form : List Entry) (at : ℕ) (k : Rational) → AllBelow n form → AllBelow n (map (solved_entry at k) form)
solved_below n [] at k h = tt
solved_below n (e ∷ es) at k h = (h.0, solved_below n es at k h.1)

solved_entries_below : (n : ℕ) (form new : List Entry) (at : ℕ) (k : Rational) → new ≡ map (solved_entry at k) form → AllBelow n form → AllBelow n new
solved_entries_below n form new at k is h = subst (λ (es : List Entry). AllBelow n es) (sym is) (solved_below n form at k h)

-- what is divided is the entry's own coefficient, but at the column
own_dividend : (at : ℕ) (e : Entry) → e.column ≢ at → dividend_of at e ≡ e.coefficient
own_dividend at e n = let other : (e.column == at) ≡ false = grind (arith, nat_tests) in rw other refl

unit_dividend : (at : ℕ) (e : Entry) → e.column ≡ at → dividend_of at e ≡ whole (negsuc 0)
unit_dividend at e same = let here : (e.column == at) ≡ true = grind (arith, nat_tests) in rw here refl

nothing_over : (k : Rational) → zero_ℚ ≡ neg_ℚ (zero_ℚ /ℚ k)
nothing_over k = sym (ap neg_ℚ (Q.zero-mul (inv_ℚ k)) ∙ neg-zero)

solved_other : (a : ℕ) (form : List Entry) (at : ℕ) (k : Rational) (j : ℕ) → IsAscending a form → j ≢ at → coefficient_of (map (solved_entry at k) form) j ≡ neg_ℚ (coefficient_of form j /ℚ k)
solved_other a [] at k j h n = nothing_over k
solved_other a (e ∷ es) at k j h n = elim (ℕ_discrete e.column j) [
  | yes same ↦ subst (λ (i : ℕ). coefficient_of (map (solved_entry at k) (e ∷ es)) i ≡ neg_ℚ (coefficient_of (e ∷ es) i /ℚ k)) same
      (taken (solved_entry at k e) (map (solved_entry at k) es) (solved_ascending (e.column + 1) es at k h.1)
      ∙ ap (λ t. neg_ℚ (t /ℚ k)) (own_dividend at e (λ w. n (sym same ∙ w)) ∙ sym (taken e es h.1)))
  | no differ ↦
      skipped (solved_entry at k e) (map (solved_entry at k) es) j differ ∙ solved_other (e.column + 1) es at k j h.1 n ∙ ap (λ t. neg_ℚ (t /ℚ k)) (sym (skipped e es j differ))
]

solved_here : (a : ℕ) (form : List Entry) (at : ℕ) (k : Rational) → IsAscending a form → k.numerator ≢ pos 0 → k ≡ coefficient_of form at → coefficient_of (map (solved_entry at k) form) at ≡ inv_ℚ k
solved_here a [] at k h some is = absurd (some (ap (λ (q : Rational). q.numerator) is))
solved_here a (e ∷ es) at k h some is = elim (ℕ_discrete e.column at) [
  | yes same ↦ subst (λ (i : ℕ). coefficient_of (map (solved_entry at k) (e ∷ es)) i ≡ inv_ℚ k) same
      (taken (solved_entry at k e) (map (solved_entry at k) es) (solved_ascending (e.column + 1) es at k h.1) ∙ ap (λ t. neg_ℚ (t /ℚ k)) (unit_dividend at e same) ∙ minus_one_over k)
  | no differ ↦ skipped (solved_entry at k e) (map (solved_entry at k) es) at differ ∙ solved_here (e.column + 1) es at k h.1 some (is ∙ skipped e es at differ)
]

row_solved : (width : ℕ) (form new : List Entry) (at : ℕ) (k : Rational) → IsAscending 0 form → AllBelow width form → k.numerator ≢ pos 0 → k ≡ coefficient_of form at → new ≡ map (solved_entry at k) form
    → IsSolved (numbers_of width form) at (numbers_of width new)
row_solved width form new at k h b some is made = record {
  size = length-numbers width new ∙ sym (length-numbers width form);
  at_place = number_is width new at new_below ∙ ap (λ es. coefficient_of es at) made ∙ solved_here 0 form at k h some is ∙ ap inv_ℚ (is ∙ sym (number_is width form at b));
  others = λ c inside differ.
      number_is width new c new_below ∙ ap (λ es. coefficient_of es c) made ∙ solved_other 0 form at k c h differ
      ∙ ap₂ (λ t u. neg_ℚ (t /ℚ u)) (sym (number_is width form c b)) (is ∙ sym (number_is width form at b));
}
  where
    new_below : AllBelow width new
    new_below = solved_entries_below width form new at k made b

entry_fault : (width : ℕ) (form : List Entry) (at i : ℕ) (k : Rational) (x : Entry) (e : NoFit) → IsAscending 0 form → k ≡ coefficient_of form at → AllBelow width form → i < length form → x ≡ get_or form i x
    → IsQuotient (dividend_of at x) k e → IsSolvingFault (numbers_of width form) at e
entry_fault width form at i k x e h is b inside x_is fault = elim (ℕ_discrete x.column at) [
  | yes same ↦ IsSolvingFault.at_place (subst (λ (d : Rational). IsQuotient (whole (negsuc 0)) d e) divisor (subst (λ (d : Rational). IsQuotient d k e) (unit_dividend at x same) fault))
  | no differ ↦ IsSolvingFault.other x.column (rw (length-numbers width form) (subst (λ (y : Entry). y.column < width) (sym x_is) (below_at width form i x b inside))) differ
      (subst (λ (d : Rational). IsQuotient (number_at (numbers_of width form) x.column) d e) divisor (subst (λ (d : Rational). IsQuotient d k e) (own_dividend at x differ ∙ number) fault))
]
  where
    divisor : k ≡ number_at (numbers_of width form) at
    divisor = is ∙ sym (number_is width form at b)

    number : x.coefficient ≡ number_at (numbers_of width form) x.column
    number = sym (number_is width form x.column b ∙ subst (λ (y : Entry). coefficient_of form y.column ≡ y.coefficient) (sym x_is) (coefficient_at 0 form i x h inside))

-- ---- the loop that solves the entries

solves_ascending : (a : ℕ) (form : List Entry) (i at : ℕ) (k : Rational) → IsAscending a form → IsAscending a (map (solved_entry at k) (take i form) ++ drop i form)
solves_ascending a [] zero at k h = tt
solves_ascending a [] (suc i) at k h = tt
solves_ascending a (e ∷ es) zero at k h = h
solves_ascending a (e ∷ es) (suc i) at k h = (h.0, solves_ascending (e.column + 1) es i at k h.1)

solves_below : (n : ℕ) (form : List Entry) (i at : ℕ) (k : Rational) → AllBelow n form → AllBelow n (map (solved_entry at k) (take i form) ++ drop i form)
solves_below n [] zero at k h = tt
solves_below n [] (suc i) at k h = tt
solves_below n (e ∷ es) zero at k h = h
solves_below n (e ∷ es) (suc i) at k h = (h.0, solves_below n es i at k h.1)

unsolved : (form : List Entry) (i at : ℕ) (k : Rational) (d : Entry) → get_or (map (solved_entry at k) (take i form) ++ drop i form) i d ≡ get_or form i d
unsolved [] zero at k d = refl
unsolved [] (suc i) at k d = refl
unsolved (e ∷ es) zero at k d = refl
unsolved (e ∷ es) (suc i) at k d = unsolved es i at k d

module _ (form now : List Entry) (i at : ℕ) (k : Rational) (is : now ≡ map (solved_entry at k) (take i form) ++ drop i form) where
  pub partly_ascending : IsAscending 0 form → IsAscending 0 now
  partly_ascending h = subst (λ (es : List Entry). IsAscending 0 es) (sym is) (solves_ascending 0 form i at k h)

  pub partly_below : (n : ℕ) → AllBelow n form → AllBelow n now
  partly_below n h = subst (λ (es : List Entry). AllBelow n es) (sym is) (solves_below n form i at k h)

  pub one_solved : (x y : Entry) → i < length form → x ≡ get_or now i x → y ≡ solved_entry at k x → set now i y ≡ map (solved_entry at k) (take (i + 1) form) ++ drop (i + 1) form
  one_solved x y h read made = ap (set now i) made ∙ map_over_more (solved_entry at k) form now i x h is read

  pub not_solved : (width : ℕ) (x : Entry) (e : NoFit) → IsAscending 0 form → k ≡ coefficient_of form at → AllBelow width form → i < length form → x ≡ get_or now i x → IsQuotient (dividend_of at x) k e → IsSolvingFault (numbers_of width form) at e
  not_solved width x e h divisor b inside read = entry_fault width form at i k x e h divisor b inside (read ∙ ap (λ es. get_or es i x) is ∙ unsolved form i at k x)

-- ---- a row as the code reads it

pub if_ok : {X E : Type 0} (r : Result X E) (P Q : Type 0) → (P → Q) → OnOk r P → OnOk r Q
if_ok (Ok u) P Q f h = f h
if_ok (Err e) P Q f h = tt

module _ (width : ℕ) (form read : List Entry) (now : List Rational) (k : Rational) (below : AllBelow width form) (view : numbers_of width form ≡ now) (same : read ≡ form) where
  pub number_read : (j : ℕ) → k ≡ coefficient_of read j → k ≡ number_at now j
  number_read j is = is ∙ ap (λ es. coefficient_of es j) same ∙ sym (number_is width form j below) ∙ ap (λ xs. number_at xs j) view

  pub solved_read : (changed new : List Entry) (at : ℕ) → IsAscending 0 form → (number_at now at).numerator ≢ pos 0 → k ≡ coefficient_of read at → changed ≡ form → new ≡ map (solved_entry at k) changed
      → IsSolved now at (numbers_of width new)
  solved_read changed new at h some is copy made =
      subst (λ (xs : List Rational). IsSolved xs at (numbers_of width new)) view
      (row_solved width form new at k h below (subst (λ (q : Rational). q.numerator ≢ pos 0) (sym (number_read at is)) some) (is ∙ ap (λ es. coefficient_of es at) same) (made ∙ ap (map (solved_entry at k)) copy))

-- ---- a row substituted

module _ (width : ℕ) (form without more new : List Entry) (at : ℕ) (k : Rational) (is : k ≡ coefficient_of form at) (form_below : AllBelow width form) (more_below : AllBelow width more)
    (gone : IsWithout 0 at form without) where
  row_substituted : IsMerged without k more new → IsSubstituted (numbers_of width form) (numbers_of width more) at (numbers_of width new)
  row_substituted merged = record {
    size = length-numbers width new ∙ sym (length-numbers width form);
    at_place = number_is width new at new_below ∙ merged.numbers at ∙ ap (λ t. t +ℚ k *ℚ coefficient_of more at) gone.here ∙ Q.zero-add _ ∙ ap₂ ◌*ℚ◌ factor (sym (number_is width more at more_below));
    others = λ c inside differ.
        number_is width new c new_below ∙ merged.numbers c
        ∙ ap₂ ◌+ℚ◌ (gone.others c differ ∙ sym (number_is width form c form_below)) (ap₂ ◌*ℚ◌ factor (sym (number_is width more c more_below)));
  }
    where
      new_below : AllBelow width new
      new_below = merged.below width (gone.below width form_below) more_below

      factor : k ≡ number_at (numbers_of width form) at
      factor = is ∙ sym (number_is width form at form_below)

  row_fault : (e : NoFit) → IsAscending 0 more → IsMergeFault without k more e → IsSubstitutionFault (numbers_of width form) (numbers_of width more) at e
  row_fault e ascending f = elim (ℕ_discrete f.entry.column at) [
    | yes same ↦ IsSubstitutionFault.at_place
        (put (number_at (numbers_of width form) at) (number_at (numbers_of width more) at) zero_ℚ factor (number ∙ ap (number_at (numbers_of width more)) same) (ap (coefficient_of without) same ∙ gone.here) f.fault)
    | no differ ↦ IsSubstitutionFault.other f.entry.column (rw (length-numbers width form) column) differ
        (put (number_at (numbers_of width form) at) (number_at (numbers_of width more) f.entry.column) (number_at (numbers_of width form) f.entry.column) factor number (gone.others f.entry.column differ ∙ sym (number_is width form f.entry.column form_below)) f.fault)
  ]
    where
      factor : k ≡ number_at (numbers_of width form) at
      factor = is ∙ sym (number_is width form at form_below)

      inside : f.index < length more
      inside = slice_get_within more f.index f.entry f.is_entry

      found : get_or more f.index f.entry ≡ f.entry
      found = get_or_from_slice_get more f.index f.entry f.entry f.is_entry

      column : f.entry.column < width
      column = subst (λ (x : Entry). x.column < width) found (below_at width more f.index f.entry more_below inside)

      number : f.entry.coefficient ≡ number_at (numbers_of width more) f.entry.column
      number = sym (number_is width more f.entry.column more_below ∙ subst (λ (x : Entry). coefficient_of more x.column ≡ x.coefficient) found (coefficient_at 0 more f.index f.entry ascending inside))

      put : (q a b : Rational) → k ≡ q → f.entry.coefficient ≡ a → coefficient_of without f.entry.column ≡ b → IsProductOrSum k f.entry.coefficient (coefficient_of without f.entry.column) e → IsProductOrSum q a b e
      put q a b s t u fault =
          subst (λ (z : Rational). IsProductOrSum z a b e) s (subst (λ (z : Rational). IsProductOrSum k z b e) t (subst (λ (z : Rational). IsProductOrSum k f.entry.coefficient z e) u fault))

row_failure : (width : ℕ) (form without more : List Entry) (at : ℕ) (k : Rational) (f : Fault) → k ≡ coefficient_of form at → AllBelow width form → AllBelow width more → IsAscending 0 more → IsWithout 0 at form without
    → IfNoFit (IsMergeFault without k more) f → IfNoFit (IsSubstitutionFault (numbers_of width form) (numbers_of width more) at) f
row_failure width form without more at k no_memory is b c h gone fault = tt
row_failure width form without more at k (no_fit e) is b c h gone fault = row_fault width form without more more at k is b c gone e h fault

-- what stands behind the cut, as the code takes it
to_end : (form : List Entry) (p : ℕ) → take (length form - p) (drop p form) ≡ drop p form
to_end form p = take_all (length form - p) (drop p form) (let size = length-drop p form in omega arith)

pub behind_coefficient : (form : List Entry) (p n : ℕ) (k : Rational) → AllBelow n (take p form) → k ≡ coefficient_of (take (length form - p) (drop p form)) n → k ≡ coefficient_of form n
behind_coefficient form p n k low is = is ∙ ap (λ es. coefficient_of es n) (to_end form p) ∙ found_behind form p n low

-- the row has the coefficient k at the place, which is read from two loans of its entries
module _ (form first second : List Entry) (p at : ℕ) (k : Rational) (t : Bool) (ascending : IsAscending 0 form) (first_is : first ≡ form) (second_is : second ≡ form)
    (low : AllBelow at (take p first)) (high : IsAscending at (drop p first)) (is : k ≡ coefficient_of (take (length second - p) (drop p second)) at) where
  form_low : AllBelow at (take p form)
  form_low = subst (λ (es : List Entry). AllBelow at (take p es)) first_is low

  form_high : IsAscending at (drop p form)
  form_high = subst (λ (es : List Entry). IsAscending at (drop p es)) first_is high

  own : k ≡ coefficient_of (take (length form - p) (drop p form)) at
  own = is ∙ ap (λ es. coefficient_of (take (length es - p) (drop p es)) at) second_is

  pub factor_is : k ≡ coefficient_of form at
  factor_is = behind_coefficient form p at k form_low own

  pub taken_out : (new : List Entry) → t ≡ is_zero k → t ≡ false → new ≡ remove form p → IsWithout 0 at form new
  taken_out new test differs made = subst (λ (es : List Entry). IsWithout 0 at form es) (sym made) ((removed 0 form p at ascending form_low form_high some).1)
    where
      not_both : true ≡ false → ⊥
      not_both e = cc

      some : coefficient_of (drop p form) at ≢ zero_ℚ
      some none = not_both (sym (ap is_zero (own ∙ ap (λ es. coefficient_of es at) (to_end form p) ∙ none)) ∙ sym test ∙ differs)

-- the row `more` is put in for the place, of which the entries are lent too
module _ (width wide : ℕ) (form without lent more taken_more : List Entry) (now solved : List Rational) (at : ℕ) (k : Rational) (form_below : AllBelow width form) (more_below : AllBelow wide more) (more_ascending : IsAscending 0 more)
    (view : numbers_of width form ≡ now) (solved_view : numbers_of wide more ≡ solved) (same_length : length now ≡ length solved) (is : k ≡ coefficient_of form at) (gone : IsWithout 0 at form without)
    (lent_is : lent ≡ without) (more_is : taken_more ≡ more) where
  same_width : wide ≡ width
  same_width = sym (length-numbers wide more) ∙ ap length solved_view ∙ sym same_length ∙ sym (ap length view) ∙ length-numbers width form

  below : AllBelow width more
  below = subst (λ (n : ℕ). AllBelow n more) same_width more_below

  solved_is : numbers_of width more ≡ solved
  solved_is = ap (λ n. numbers_of n more) (sym same_width) ∙ solved_view

  pub put_in : (new : List Entry) → IsMerged lent k taken_more new → IsSubstituted now solved at (numbers_of width new)
  put_in new merged =
      subst (λ (xs : List Rational). IsSubstituted xs solved at (numbers_of width new)) view
      (subst (λ (xs : List Rational). IsSubstituted (numbers_of width form) xs at (numbers_of width new)) solved_is
      (row_substituted width form without more new at k is form_below below gone
      (subst (λ (es : List Entry). IsMerged es k more new) lent_is (subst (λ (es : List Entry). IsMerged lent k es new) more_is merged))))

  pub put_in_below : (new : List Entry) → IsMerged lent k taken_more new → AllBelow width new
  put_in_below new merged = merged.below width (subst (λ (es : List Entry). AllBelow width es) (sym lent_is) (gone.below width form_below)) (subst (λ (es : List Entry). AllBelow width es) (sym more_is) below)

  pub not_put_in : (f : Fault) → IfNoFit (IsMergeFault lent k taken_more) f → IfNoFit (IsSubstitutionFault now solved at) f
  not_put_in f fault =
      subst (λ (xs : List Rational). IfNoFit (IsSubstitutionFault xs solved at) f) view
      (subst (λ (xs : List Rational). IfNoFit (IsSubstitutionFault (numbers_of width form) xs at) f) solved_is
      (row_failure width form without more at k f is form_below below more_ascending gone
      (subst (λ (es : List Entry). IfNoFit (IsMergeFault es k more) f) lent_is (subst (λ (es : List Entry). IfNoFit (IsMergeFault lent k es) f) more_is fault))))
