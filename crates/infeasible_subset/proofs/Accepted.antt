-- Weights that the checker accepts: they refute the problem, and those that it accepts with some of the problem's bounds it accepts
-- with all of them, since its test makes the same operations there. The certificate of such weights is accepted.
use Rattle.std.proofs.Common.{◌≡◌, ◌∙◌, ℕ, ◌+◌, ◌==◌, ◌&&◌, suc, List, [], ◌∷◌, ◌++◌, length, Bool, true, false, cond, refl, sym, ap, subst, Option, Some, None, Result, Ok, Err, IfOk, IsTrue, slice_get, option_and_then, if◌then◌else◌}
use Rattle.std.proofs.lemmas.Bool.{and_from, eq-eqb}
use mathlib.Core.Path.{ap₂}
use Rattle.rational.specs.Rational.{Rational, zero_ℚ}
use Rattle.rational.specs.Compare.{is_less, is_same}
use Rattle.fraction.specs.declared.frac.NoFit.{NoFit}
use Rattle.milp.specs.Form.{Entry}
use Rattle.milp.specs.Problem.{Column, Row, Problem}
use Rattle.instance.specs.Sums.{and_then, form_of}
use Rattle.verdicts.specs.Certificate.{Two, Infeasible, Item, Weights, Empty, Certificate}
use Rattle.verdicts.specs.Proves.{Proves, lower_under, upper_under, node_passes}
use Rattle.basis.specs.Relaxation.{leaf_certificate}
use Rattle.cert_check.specs.Sums.{and_also, row_bound, are_there, all_there, with_bound, with_bounds, bound_sum, Product, item_products, weight_products, with_products, are_forms}
use Rattle.cert_check.specs.Parts.{node_answer}
use Rattle.cert_check.specs.Outcome.{Acceptance, outcome, trials}
use Rattle.cert_check.specs.declared.part.Checked.TheVariants.{Accepted}
use Rattle.cert_check.proofs.Laws.{check_accepted, node_ok}
use Rattle.search_tree.specs.Work.{node_setting}
use Rattle.infeasible_subset.specs.Members.{Side, Member, OfRow, OfColumn}
use Rattle.infeasible_subset.specs.Subsets.{sub_columns, sub, row_used, column_used, AllUse, UsesOnly, Refutes, AreAccepted}
use Rattle.infeasible_subset.proofs.Subsets.{row_or_none, get_row, column_or_none, get_column, used_bound, trial_refutes}

-- weights that are accepted refute the problem
pub refuted : (p : Problem) (w : Weights) → AreAccepted p w → Refutes p w
refuted p w h = let P : Result Bool NoFit → Type 0 = λ r. IfOk r (λ b. b ≡ node_passes p Two None [] [] (Empty w)) in record { passes = sym (subst P h.passes (node_ok p Two None [] [] (Empty w))) }

-- ---- the bounds that weights use, in the problem with fewer bounds

abbrev of_row : Problem → Item → Result (Option Rational) NoFit
of_row p i = Ok (row_bound i.weight (slice_get p.rows i.index))

abbrev of_column : Problem → Item → Result (Option Rational) NoFit
of_column p i = if is_less zero_ℚ i.weight then Ok (lower_under p [] i.index) else Ok (upper_under p [] i.index)

row_bound_same : (p : Problem) (keep : Member → Bool) (i : Item) → IsTrue (keep (row_used i)) → of_row (sub p keep) i ≡ of_row p i
row_bound_same p keep i h = ap Ok (go (slice_get p.rows i.index) (get_row _ p.rows i.index))
  where
    go : (o : Option Row) {a : Option Row} → a ≡ row_or_none (λ s. keep (OfRow i.index s)) o → row_bound i.weight a ≡ row_bound i.weight o
    go None e = rw e refl
    go (Some r) e = rw e (used_bound (λ s. keep (OfRow i.index s)) i.weight r.lower r.upper h)

-- a bound that is there with either sign
given : (b : Bool) (lower upper : Option Rational) → ◌≡◌ {A = Result (Option Rational) NoFit} (if b then Ok lower else Ok upper) (Ok (if b then lower else upper))
given true lower upper = refl
given false lower upper = refl

column_bound_same : (p : Problem) (keep : Member → Bool) (i : Item) → IsTrue (keep (column_used i)) → of_column (sub p keep) i ≡ of_column p i
column_bound_same p keep i h = given (is_less zero_ℚ i.weight) _ _ ∙ ap Ok (go (slice_get p.columns i.index) (get_column _ p.columns i.index)) ∙ sym (given (is_less zero_ℚ i.weight) _ _)
  where
    go : (o : Option Column) {a : Option Column} → a ≡ column_or_none (λ s. keep (OfColumn i.index s)) o → (if is_less zero_ℚ i.weight then option_and_then (λ c. c.lower) a else option_and_then (λ c. c.upper) a) ≡ (if is_less zero_ℚ i.weight then option_and_then (λ c. c.lower) o else option_and_then (λ c. c.upper) o)
    go None e = rw e refl
    go (Some c) e = rw e (used_bound (λ s. keep (OfColumn i.index s)) i.weight c.lower c.upper h)

there_same : (f g : Item → Result (Option Rational) NoFit) (member : Item → Member) (keep : Member → Bool) (is : List Item) → ((i : Item) → IsTrue (keep (member i)) → f i ≡ g i) → AllUse member keep is → are_there f is ≡ are_there g is
there_same f g member keep [] h k = refl
there_same f g member keep (i ∷ is) h k = rw (h i k.0, there_same f g member keep is h k.1) refl

then_same : {A B : Type 0} (r s : Result A NoFit) (f g : A → Result B NoFit) → r ≡ s → ((a : A) → f a ≡ g a) → and_then r f ≡ and_then s g
then_same r (Ok a) f g e h = rw e (h a)
then_same r (Err fault) f g e h = rw e refl

bounds_same : (f g : Item → Result (Option Rational) NoFit) (member : Item → Member) (keep : Member → Bool) (total : Rational) (is : List Item) → ((i : Item) → IsTrue (keep (member i)) → f i ≡ g i) → AllUse member keep is → with_bounds f total is ≡ with_bounds g total is
bounds_same f g member keep total [] h k = refl
bounds_same f g member keep total (i ∷ is) h k = then_same (f i) (g i) _ _ (h i k.0) (λ o. then_same (with_bound total i.weight o) (with_bound total i.weight o) _ _ refl (λ t. bounds_same f g member keep t is h k.1))

-- ---- the forms, which the problem with fewer bounds has as well

row_form_same : (p : Problem) (keep : Member → Bool) (i : ℕ) → form_of (slice_get (sub p keep).rows i) ≡ form_of (slice_get p.rows i)
row_form_same p keep i = go (slice_get p.rows i) (get_row _ p.rows i)
  where
    go : (o : Option Row) {a : Option Row} → a ≡ row_or_none (λ s. keep (OfRow i s)) o → form_of a ≡ form_of o
    go None e = rw e refl
    go (Some r) e = rw e refl

products_same : (f g : ℕ → List Entry) → ((i : ℕ) → f i ≡ g i) → (is : List Item) (j : ℕ) → item_products f is j ≡ item_products g is j
products_same f g h [] j = refl
products_same f g h (i ∷ is) j = rw (h i.index, products_same f g h is j) refl

append_same : {A : Type 0} (xs ys zs : List A) → xs ≡ ys → xs ++ zs ≡ ys ++ zs
append_same xs ys zs e = ap (λ all. all ++ zs) e

weights_same : (p : Problem) (keep : Member → Bool) (w : Weights) (j : ℕ) → weight_products (node_setting (sub p keep) [] []) w j ≡ weight_products (node_setting p [] []) w j
weights_same p keep w j = append_same _ _ _ (products_same _ _ (row_form_same p keep) w.rows j)

forms_same : (f g : ℕ → List Product) (wanted : ℕ → Rational) (keep : ℕ → Side → Bool) → ((j : ℕ) → f j ≡ g j) → (j : ℕ) (cs : List Column) → are_forms f wanted j (sub_columns keep cs) ≡ are_forms g wanted j cs
forms_same f g wanted keep h j [] = refl
forms_same f g wanted keep h j (c ∷ cs) = then_same (with_products zero_ℚ (f j)) (with_products zero_ℚ (g j)) _ _ (ap (with_products zero_ℚ) (h j)) (λ v. ap (λ rest. cond (is_same v (wanted j)) rest (Ok false)) (forms_same f g wanted (λ k. keep (suc k)) h (j + 1) cs))

-- ---- the test of weights that use bounds which are kept

module _ (p : Problem) (keep : Member → Bool) (w : Weights) (h : UsesOnly keep w) where
  all_there_same : all_there (node_setting (sub p keep) [] []) w ≡ all_there (node_setting p [] []) w
  all_there_same =
      ap₂ and_also (there_same (of_row (sub p keep)) (of_row p) row_used keep w.rows (row_bound_same p keep) h.rows)
      (ap₂ and_also (there_same (of_column (sub p keep)) (of_column p) column_used keep w.columns (column_bound_same p keep) h.columns) refl)

  bound_sum_same : bound_sum (node_setting (sub p keep) [] []) zero_ℚ w ≡ bound_sum (node_setting p [] []) zero_ℚ w
  bound_sum_same =
      then_same _ _ _ _ (bounds_same (of_row (sub p keep)) (of_row p) row_used keep zero_ℚ w.rows (row_bound_same p keep) h.rows)
      (λ r. then_same _ _ _ _ (bounds_same (of_column (sub p keep)) (of_column p) column_used keep r w.columns (column_bound_same p keep) h.columns) (λ c. refl))

  answer_same : node_answer (node_setting (sub p keep) [] []) None (Empty w) ≡ node_answer (node_setting p [] []) None (Empty w)
  answer_same =
      ap₂ and_also all_there_same
      (ap₂ and_also (forms_same _ _ (λ j. zero_ℚ) _ (weights_same p keep w) 0 p.columns)
      (ap (λ r. and_then r (λ v. Ok (is_less zero_ℚ v))) bound_sum_same))

-- weights that are accepted with some bounds use those alone, and are accepted with all of them
pub trial_accepted : (p : Problem) (keep : Member → Bool) (w : Weights) → AreAccepted (sub p keep) w → UsesOnly keep w × AreAccepted p w
trial_accepted p keep w a =
    let uses : UsesOnly keep w = (trial_refutes p keep w (refuted (sub p keep) w a)).0 in
    (uses, record { passes = sym (answer_same p keep w uses) ∙ a.passes })

-- ---- the certificate of weights

-- the certificate of accepted weights is accepted
pub leaf_accepted : (p : Problem) (w : Weights) (c : Certificate) → AreAccepted p w → c ≡ leaf_certificate p Infeasible None None (Empty w) → outcome (trials p c) ≡ Acceptance
leaf_accepted p w c h is =
    let P : Certificate → Type 0 = λ d. outcome (trials p d) ≡ Acceptance in
    let size : ((length p.rows == length p.rows) && (length p.columns == length p.columns)) ≡ true = and_from _ _ (eq-eqb (length p.rows) (length p.rows) refl) (eq-eqb (length p.columns) (length p.columns) refl) in
    subst P (sym is) (rw (size, h.passes) refl)

pub leaf_proves : (p : Problem) (w : Weights) (c : Certificate) → AreAccepted p w → c ≡ leaf_certificate p Infeasible None None (Empty w) → Proves p c
leaf_proves p w c h is = check_accepted p c (Ok Accepted) (sym (leaf_accepted p w c h is)) refl
