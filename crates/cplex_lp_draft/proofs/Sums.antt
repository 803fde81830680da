-- The sums of columns in a map, and the terms that they stand for.
use Rattle.std.proofs.Common.{◌≡◌, ◌∙◌, ℕ, ◌+◌, ◌<◌, ◌≤◌, nat_lt, nat_le, ◌==◌, ◌&&◌, Bool, true, false, List, [], ◌∷◌, map, Option, None, Result, Ok, Err, refl, sym, ap, arith}
use Rattle.std.proofs.lemmas.Bool.{and_parts, and_from, le-leb, lt-ltb}
use Rattle.std.proofs.lemmas.Bool.Decides.{nat_tests}
use Rattle.std.proofs.lemmas.Cmp.{nat_cmp_total}
use Rattle.std.proofs.lemmas.Map.{lookup-none}
use Rattle.std.proofs.lemmas.Map.Entries.{none_below_head}
use Rattle.std.proofs.lemmas.Map.Keys.{sorted_tail}
use Rattle.std.specs.Ordering.{nat_cmp}
use Rattle.std.specs.declared.cmp.Ordering.TheVariants.{Less}
use Rattle.std.specs.Map.{keys_of, lookup}
use Rattle.std.specs.BTreeMap.{insert_entry, is_at}
use Rattle.std.specs.List.Sorted.{IsStrictlySortedBy}
use Rattle.rational.specs.Rational.{Rational}
use Rattle.milp.specs.Form.{Entry}
use Rattle.model_text.specs.declared.fault.FileFault.{FileFault}
use Rattle.model_text.specs.declared.error.ReadError.{ReadError}
use Rattle.model_text.specs.declared.error.ReadError.TheVariants.{Fault, NoMemory}
use Rattle.model_text.specs.Follows.{Follows, as_read}
use Rattle.model_text.specs.Steps.{then_do}
use Rattle.cplex_lp_draft.specs.Declaration.{added}
use Rattle.cplex_lp_draft.specs.Consistent.{term_of, sum_with, are_terms_from}

abbrev Sums : Type 0
Sums = List (ℕ × Rational)

below : (a b : ℕ) → nat_lt a b ≡ true → a + 1 ≤ b
below a b h = grind (arith, nat_tests)

above : (a b : ℕ) → nat_lt a b ≡ false → (a == b) ≡ false → b + 1 ≤ a
above a b h g = grind (arith, nat_tests)

-- ---- a term more

module _ (line j : ℕ) (v : Rational) where
  abbrev made : Sums → Option Rational → Result (List Entry) FileFault
  made es found = then_do (λ sum. Ok (map term_of (insert_entry nat_cmp es j sum))) (sum_with line found v)

  abbrev found_in : Sums → Option Rational
  found_in es = lookup (is_at (nat_cmp j)) es

  -- before entries of later columns
  first : (e : ℕ × Rational) (es : Sums) → IsStrictlySortedBy nat_cmp (keys_of (e ∷ es)) → nat_lt j e.0 ≡ true → added line j v (map term_of (e ∷ es)) ≡ made (e ∷ es) (found_in (e ∷ es))
  first e es sorted h =
      let less : nat_cmp j e.0 ≡ Less = rw h refl in
      let none : found_in (e ∷ es) ≡ None = lookup-none (is_at (nat_cmp j)) (e ∷ es) (none_below_head nat_cmp_total j e es sorted less) in
      let new : added line j v (map term_of (e ∷ es)) ≡ made (e ∷ es) None = rw h refl in
      new ∙ ap (made (e ∷ es)) (sym none)

  -- at an entry of its column
  same : (e : ℕ × Rational) (es : Sums) → nat_lt j e.0 ≡ false → (j == e.0) ≡ true → added line j v (map term_of (e ∷ es)) ≡ made (e ∷ es) (found_in (e ∷ es))
  same e es h g = rw (h, g) refl

  consed : (e : Entry) (es : Sums) (r : Result Rational FileFault) → then_do (λ more. Ok (e ∷ more)) (then_do (λ sum. Ok (map term_of (insert_entry nat_cmp es j sum))) r) ≡ then_do (λ sum. Ok (e ∷ map term_of (insert_entry nat_cmp es j sum))) r
  consed e es (Ok sum) = refl
  consed e es (Err fault) = refl

  -- after an entry of an earlier column
  later : (e : ℕ × Rational) (es : Sums) → nat_lt j e.0 ≡ false → (j == e.0) ≡ false → added line j v (map term_of es) ≡ made es (found_in es) → added line j v (map term_of (e ∷ es)) ≡ made (e ∷ es) (found_in (e ∷ es))
  later e es h g more = rw (h, g) (ap (then_do (λ more. Ok (term_of e ∷ more))) more ∙ consed (term_of e) es (sum_with line (found_in es) v))

  added-by : (e : ℕ × Rational) (es : Sums) → IsStrictlySortedBy nat_cmp (keys_of (e ∷ es)) → added line j v (map term_of es) ≡ made es (found_in es) → (b c : Bool) → nat_lt j e.0 ≡ b → (j == e.0) ≡ c → added line j v (map term_of (e ∷ es)) ≡ made (e ∷ es) (found_in (e ∷ es))
  added-by e es sorted more true c h g = first e es sorted h
  added-by e es sorted more false true h g = same e es h g
  added-by e es sorted more false false h g = later e es h g more

  pub added-is : (es : Sums) → IsStrictlySortedBy nat_cmp (keys_of es) → added line j v (map term_of es) ≡ made es (found_in es)
  added-is [] sorted = refl
  added-is (e ∷ es) sorted = added-by e es sorted (added-is es (sorted_tail nat_cmp e.0 (keys_of es) sorted)) (nat_lt j e.0) (j == e.0) refl refl

-- ---- a step of the code

read-ok : {A : Type 0} (answer : Result A FileFault) (a : A) → as_read answer ≡ Ok a → answer ≡ Ok a
read-ok (Ok b) a e = cc
read-ok (Err fault) a e = cc

read-err : {A : Type 0} (answer : Result A FileFault) (fault : FileFault) → as_read answer ≡ Err (Fault fault) → answer ≡ Err fault
read-err (Ok b) fault e = cc
read-err (Err other) fault e = cc

module _ (line j : ℕ) (v : Rational) (es : Sums) (sorted : IsStrictlySortedBy nat_cmp (keys_of es)) where
  pub added-goes : (sum : Rational) (more : Sums) → as_read (sum_with line (lookup (is_at (nat_cmp j)) es) v) ≡ Ok sum → more ≡ insert_entry nat_cmp es j sum → added line j v (map term_of es) ≡ Ok (map term_of more)
  added-goes sum more e f =
      let fits : sum_with line (lookup (is_at (nat_cmp j)) es) v ≡ Ok sum = read-ok _ sum e in
      let next : made line j v es (lookup (is_at (nat_cmp j)) es) ≡ Ok (map term_of (insert_entry nat_cmp es j sum)) = rw fits refl in
      added-is line j v es sorted ∙ next ∙ ap (λ ts. Ok (map term_of ts)) (sym f)

  pub added-stops : (error : ReadError FileFault) (new : List Entry) → as_read (sum_with line (lookup (is_at (nat_cmp j)) es) v) ≡ Err error → Follows (Err error) new (added line j v (map term_of es))
  added-stops (Fault fault) new e =
      let wide : sum_with line (lookup (is_at (nat_cmp j)) es) v ≡ Err fault = read-err _ fault e in
      let next : made line j v es (lookup (is_at (nat_cmp j)) es) ≡ Err fault = rw wide refl in
      added-is line j v es sorted ∙ next
  added-stops NoMemory new e = tt

-- ---- the terms stay in order

module _ (count j : ℕ) (v : Rational) (within : j < count) where
  inserted-by : (least : ℕ) (e : ℕ × Rational) (es : Sums) → least ≤ j → are_terms_from least count (map term_of (e ∷ es)) ≡ true
      → ((from : ℕ) → from ≤ j → are_terms_from from count (map term_of es) ≡ true → are_terms_from from count (map term_of (insert_entry nat_cmp es j v)) ≡ true)
      → (b c : Bool) → nat_lt j e.0 ≡ b → (j == e.0) ≡ c → are_terms_from least count (map term_of (insert_entry nat_cmp (e ∷ es) j v)) ≡ true
  inserted-by least e es a t more true c h g =
      let parts = and_parts (nat_le least e.0) (nat_lt e.0 count && are_terms_from (e.0 + 1) count (map term_of es)) t in
      rw h (and_from _ _ (le-leb least j a) (and_from _ _ (lt-ltb j count within) (and_from _ _ (le-leb (j + 1) e.0 (below j e.0 h)) parts.1)))
  inserted-by least e es a t more false true h g = rw (h, g) t
  inserted-by least e es a t more false false h g =
      let parts = and_parts (nat_le least e.0) (nat_lt e.0 count && are_terms_from (e.0 + 1) count (map term_of es)) t in
      let rest = and_parts (nat_lt e.0 count) (are_terms_from (e.0 + 1) count (map term_of es)) parts.1 in
      rw (h, g) (and_from _ _ parts.0 (and_from _ _ rest.0 (more (e.0 + 1) (above j e.0 h g) rest.1)))

  pub inserted-terms : (least : ℕ) (es : Sums) → least ≤ j → are_terms_from least count (map term_of es) ≡ true → are_terms_from least count (map term_of (insert_entry nat_cmp es j v)) ≡ true
  inserted-terms least [] a t = and_from _ _ (le-leb least j a) (and_from _ _ (lt-ltb j count within) refl)
  inserted-terms least (e ∷ es) a t = inserted-by least e es a t (λ from b u. inserted-terms from es b u) (nat_lt j e.0) (j == e.0) refl refl
