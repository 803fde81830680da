-- What is made of the numbers by variable is the cut of the row.
use Rattle.std.proofs.Common.{◌≡◌, ◌∙◌, ℕ, zero, suc, ◌+◌, ◌<◌, ◌≤◌, List, [], ◌∷◌, ◌++◌, length, refl, sym, ap, subst, arith, Bool, true, false, Result, Ok, Err}
use Rattle.std.specs.Prelude.{◌&&◌, ◌==◌, not, IsTrue, IsFalse, IsErrAnd, IfErr}
use Rattle.std.proofs.lemmas.Bool.{and_from}
use mathlib.Core.Path.{ap₂}
use Rattle.rational.specs.Rational.{Rational, zero_ℚ, one_ℚ, ◌+ℚ◌, ◌*ℚ◌}
use Rattle.rational.specs.Compare.{is_zero, is_whole}
use Rattle.rational.proofs.Laws.{whole_true, zero_true}
use Rattle.milp.specs.Form.{Entry, number_at, sum_at}
use Rattle.milp.specs.Problem.{Row, Problem}
use Rattle.fraction.specs.declared.frac.NoFit.{NoFit}
use Rattle.instance.specs.Sums.{sum_answer}
use Rattle.verdicts.specs.Certificate.{Item, Weights, FormSplit, Derived, BySplit}
use Rattle.verdicts.specs.WeightedSums.{coefficient_of, sum_below}
use Rattle.basis.specs.Dictionary.{place_of}
use Rattle.basis.specs.Node.{integer_at}
use Rattle.basis.specs.Weights.{items_at, items_of, numbers_from, weights_of, nonzero}
use Rattle.basis.specs.declared.Place.{Place}
use Rattle.basis.specs.declared.Place.TheVariants.{Basic, AtLower, AtUpper, AtZero}
use Rattle.basis.proofs.Laws.{length-numbers, numbers-below}
use Rattle.gomory.specs.Cuts.{cut_weight, split_coefficient, entries_at, form_from, rows_coefficient, sum_coefficient, HasCut, IsGomorySplit, IsGomoryCut}
use Rattle.gomory.specs.Faults.{IfNoFit, bound_answer, cut_weights, IsCoefficientFault, IsCutFault}
use Rattle.gomory.specs.HasCut.{rests_within, all_rest_within, is_basic_place, has_cut}
use Rattle.gomory.specs.declared.fault.Unfit.{Unfit}
use Rattle.gomory.specs.declared.fault.Unfit.TheVariants.{NoFit as no_fit, NoMemory as no_memory}
use Rattle.gomory.proofs.VariableSums.{value_from}

never : {X : Type 0} → false ≡ true → X
never e = let no : false ≡ true = e in absurd (impossible no)
  where
    impossible : false ≡ true → ⊥
    impossible e = let no : false ≡ true = e in cc

first : (s t : Bool) → (s && t) ≡ true → s ≡ true
first true t e = refl
first false t e = e

second : (s t : Bool) → (s && t) ≡ true → t ≡ true
second true t e = e
second false t e = never e

-- ---- whether there is a cut

at_zero : (place : Place) (rate : Rational) → place ≡ AtZero → rests_within place rate ≡ true → rate ≡ zero_ℚ
at_zero place rate z h = let P : Place → Type 0 = λ t. rests_within t rate ≡ true in zero_true rate (subst P z h)

rest_all : (b : List Place) (rates : List Rational) → all_rest_within b rates ≡ true → (v : ℕ) → v < length b → place_of b v ≡ AtZero → number_at rates v ≡ zero_ℚ
rest_all [] rates h v k z = absurd (omega arith)
rest_all (place ∷ b) [] h v k z = refl
rest_all (place ∷ b) (rate ∷ rates) h zero k z = at_zero place rate z (first _ _ h)
rest_all (place ∷ b) (rate ∷ rates) h (suc v) k z = rest_all b rates (second (rests_within place rate) _ h) v (omega arith) z

within : (place : Place) (rate : Rational) → (place ≡ AtZero → rate ≡ zero_ℚ) → rests_within place rate ≡ true
within Basic rate h = refl
within AtLower rate h = refl
within AtUpper rate h = refl
within AtZero rate h = ap is_zero (h refl)

all_rest : (b : List Place) (rates : List Rational) → ((v : ℕ) → v < length b → place_of b v ≡ AtZero → number_at rates v ≡ zero_ℚ) → all_rest_within b rates ≡ true
all_rest [] rates h = refl
all_rest (place ∷ b) [] h = refl
all_rest (place ∷ b) (rate ∷ rates) h = and_from _ _ (within place rate (λ z. h zero (omega arith) z)) (all_rest b rates (λ v k z. h (suc v) (omega arith) z))

basic_true : (place : Place) → is_basic_place place ≡ true → place ≡ Basic
basic_true Basic h = refl
basic_true AtLower h = never h
basic_true AtUpper h = never h
basic_true AtZero h = never h

module _ (p : Problem) (b : List Place) (rates x : List Rational) (r : ℕ) where
  has_from : has_cut p b rates x r ≡ true → HasCut p b (number_at rates) (number_at x) r
  has_from h =
      let behind = second (integer_at p r) _ h in
      let last = second (is_basic_place (place_of b r)) _ behind in
      record {
        basic = basic_true (place_of b r) (first _ _ behind);
        integer = first _ _ h;
        not_whole = λ w. never (sym (ap (λ m. not (m == 1)) w) ∙ first (not (is_whole (number_at x r))) _ last);
        bounded = rest_all b rates (second (not (is_whole (number_at x r))) _ last);
      }

  has_exactly : HasCut p b (number_at rates) (number_at x) r → has_cut p b rates x r ≡ true
  has_exactly h = and_from _ _ h.integer (and_from _ _ (ap is_basic_place h.basic) (and_from _ _ (go (is_whole (number_at x r)) refl) (all_rest b rates h.bounded)))
    where
      go : (t : Bool) → is_whole (number_at x r) ≡ t → not t ≡ true
      go true e = absurd (h.not_whole (whole_true (number_at x r) e))
      go false e = refl

  pub has_yes : (answer : Bool) → answer ≡ has_cut p b rates x r → IsTrue answer → HasCut p b (number_at rates) (number_at x) r
  has_yes true e k = has_from (sym e)
  has_yes false e k = never k

  pub has_no : (answer : Bool) → answer ≡ has_cut p b rates x r → IsFalse answer → ¬ (HasCut p b (number_at rates) (number_at x) r)
  has_no true e k h = never (sym k)
  has_no false e k h = never (e ∙ has_exactly h)

-- ---- what depends on numbers below a count alone

form_cong : (f g : ℕ → Rational) (j count : ℕ) → ((v : ℕ) → v < j + count → f v ≡ g v) → form_from j count f ≡ form_from j count g
form_cong f g j zero h = refl
form_cong f g j (suc count) h = ap₂ (λ a rest. entries_at j (nonzero a) ++ rest) (h j (omega arith)) (form_cong f g (suc j) count (λ v k. h v (omega arith)))

items_cong : (f g : ℕ → Rational) (from i count : ℕ) → ((v : ℕ) → v < from + count → f v ≡ g v) → items_of (λ v. nonzero (f v)) from i count ≡ items_of (λ v. nonzero (g v)) from i count
items_cong f g from i zero h = refl
items_cong f g from i (suc count) h = ap₂ (λ a rest. items_at i (nonzero a) ++ rest) (h from (omega arith)) (items_cong f g (suc from) (suc i) count (λ v k. h v (omega arith)))

rows_cong : (f g : ℕ → Rational) (v : ℕ) (rows : List Row) (j : ℕ) → ((u : ℕ) → u < v + length rows → f u ≡ g u) → rows_coefficient f v rows j ≡ rows_coefficient g v rows j
rows_cong f g v [] j h = refl
rows_cong f g v (row ∷ rows) j h = ap₂ (λ a rest. a *ℚ coefficient_of row.entries j +ℚ rest) (h v (omega arith)) (rows_cong f g (suc v) rows j (λ u k. h u (omega arith)))

listed : (f : ℕ → Rational) (n : ℕ) (l : List Rational) → l ≡ numbers_from 0 n f → (v : ℕ) → v < n → number_at l v ≡ f v
listed f n l e v k = ap (λ l. number_at l v) e ∙ numbers-below n f v k

pub form_made : (f : ℕ → Rational) (n count : ℕ) (l : List Rational) (form : List Entry) → l ≡ numbers_from 0 n f → count ≤ n → form ≡ form_from 0 count (number_at l) → form ≡ form_from 0 count f
form_made f n count l form e k h = h ∙ form_cong (number_at l) f 0 count (λ v q. listed f n l e v (omega arith))

abbrev weights_by : List Item → List Item → List Item → List Item → Weights
weights_by r c d s = record { rows = r; columns = c; derived = d; splits = s }

same_weights : (w v : Weights) → w.rows ≡ v.rows → w.columns ≡ v.columns → w.derived ≡ v.derived → w.splits ≡ v.splits → w ≡ v
same_weights w v r c d s = ap (λ t. weights_by t w.columns w.derived w.splits) r ∙ ap (λ t. weights_by v.rows t w.derived w.splits) c ∙ ap (λ t. weights_by v.rows v.columns t w.splits) d ∙ ap (weights_by v.rows v.columns v.derived) s

pub weights_made : (p : Problem) (f : ℕ → Rational) (n : ℕ) (l : List Rational) (w : Weights) → n ≡ length p.columns + length p.rows → l ≡ numbers_from 0 n f
    → w.rows ≡ items_of (λ v. nonzero (number_at l v)) (length p.columns) 0 (length p.rows) → w.columns ≡ items_of (λ v. nonzero (number_at l v)) 0 0 (length p.columns) → w.derived ≡ [] → w.splits ≡ [] → w ≡ weights_of p [] (λ v. nonzero (f v))
weights_made p f n l w size e r c d s =
    same_weights w (weights_of p [] (λ v. nonzero (f v)))
    (r ∙ items_cong (number_at l) f (length p.columns) 0 (length p.rows) (λ v k. listed f n l e v (omega arith)))
    (c ∙ items_cong (number_at l) f 0 0 (length p.columns) (λ v k. listed f n l e v (omega arith)))
    d s

-- ---- the split and the cut

module _ (p : Problem) (b : List Place) (rates x : List Rational) (r : ℕ) (weights : List Rational) (size : length b ≡ length p.columns + length p.rows) (are_weights : weights ≡ cut_weights p b rates x r) where
  abbrev w : ℕ → Rational
  w = cut_weight p b (number_at rates) (number_at x) r

  as_many : length weights ≡ length b
  as_many = ap length are_weights ∙ length-numbers 0 (length b) w

  same_weight : (v : ℕ) → v < length b → number_at weights v ≡ w v
  same_weight v k = listed w (length b) weights are_weights v k

  over_variables : form_from 0 (length weights) (number_at weights) ≡ form_from 0 (length b) w
  over_variables = ap (λ n. form_from 0 n (number_at weights)) as_many ∙ form_cong (number_at weights) w 0 (length b) (λ v k. same_weight v (omega arith))

  pub cut_made : (bound : Rational) (form : List Entry) (split : FormSplit) (made : Derived) → bound ≡ sum_at x (form_from 0 (length weights) (number_at weights)) +ℚ one_ℚ
      → form ≡ form_from 0 (length p.columns) (sum_coefficient p (number_at weights)) → IsGomorySplit p b (number_at rates) (number_at x) r split
      → made ≡ record { bound = bound; form = form; proof = BySplit split } → IsGomoryCut p b (number_at rates) (number_at x) r made
  cut_made bound form split made eb ef is e = subst (IsGomoryCut p b (number_at rates) (number_at x) r) (sym e) (record {
    form = ef ∙ form_cong (sum_coefficient p (number_at weights)) (sum_coefficient p w) 0 (length p.columns) (λ j k. ap₂ ◌+ℚ◌ (same_weight j (omega arith)) (rows_cong (number_at weights) w (length p.columns) p.rows j (λ u q. same_weight u (omega arith))));
    bound = eb ∙ ap (λ t. t +ℚ one_ℚ) (ap (sum_at x) over_variables ∙ value_from (number_at x) w (length b) ∙ ap (λ n. sum_below n (λ v. w v *ℚ number_at x v)) size);
    split = split;
    proof = refl;
    is_split = is;
  })

  pub bound_fault : (o : NoFit) → bound_answer x (form_from 0 (length weights) (number_at weights)) ≡ Err o → IsCutFault p b rates x r o
  bound_fault o h = IsCutFault.of_bound (ap (bound_answer x) (sym over_variables) ∙ h)

  pub coefficient_faulty : (o : NoFit) → IsCoefficientFault p weights o → IsCutFault p b rates x r o
  coefficient_faulty o h = let P : List Rational → Type 0 = λ l. IsCoefficientFault p l o in IsCutFault.of_coefficient (subst P are_weights h)

pub split_fault : (p : Problem) (b : List Place) (rates x : List Rational) (r : ℕ) (form : List Entry) → form ≡ form_from 0 (length p.columns) (split_coefficient p b (number_at rates) (number_at x) r) → (o : NoFit)
    → sum_answer x zero_ℚ form ≡ Err o → IsCutFault p b rates x r o
split_fault p b rates x r form e o h = IsCutFault.of_split (ap (sum_answer x zero_ℚ) (sym e) ∙ h)

-- ---- faults that are handed on

handed_on : (P Q : NoFit → Type 0) (e : Unfit) → ((o : NoFit) → P o → Q o) → IfNoFit P e → IfNoFit Q e
handed_on P Q (no_fit o) f h = f o h
handed_on P Q no_memory f h = tt

pub kept : {X : Type 0} (r : Result X Unfit) (e : Unfit) (P Q : NoFit → Type 0) → IsErrAnd r (λ d. d ≡ e) → ((o : NoFit) → P o → Q o) → IfNoFit P e → IfErr r (IfNoFit Q)
kept (Ok x) e P Q h f p = tt
kept (Err d) e P Q h f p = let T : Unfit → Type 0 = IfNoFit Q in subst T (sym h) (handed_on P Q e f p)
