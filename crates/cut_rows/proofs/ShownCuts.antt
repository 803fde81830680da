-- Cuts that are shown: they hold at each feasible point.
use Rattle.std.proofs.Common.{◌≡◌, ◌∙◌, ℕ, ◌+◌, List, [], ◌∷◌, ◌++◌, true, false, ◌&&◌, refl, ap, None, length}
use Rattle.std.specs.List.{list_all}
use Rattle.std.proofs.lemmas.Bool.{and_parts, and_from}
use Rattle.rational.specs.Rational.{Rational}
use Rattle.rational.specs.Compare.{is_at_most}
use Rattle.rational.proofs.Laws.{true_at_most}
use Rattle.milp.specs.Form.{sum_at}
use Rattle.milp.specs.Problem.{Column, Row, Problem}
use Rattle.milp.specs.Points.{Feasible}
use Rattle.verdicts.specs.Certificate.{Two, Derived}
use Rattle.verdicts.specs.Proves.{lies_above, lies_below, meets_columns, meets_rows, in_range, AllDerived, proof_passes, derived_passes, derived_tests, Part, first_failing}
use Rattle.verdicts.proofs.Laws.{derived_more, derived_sound, meets_true, true_meets}
use Rattle.row_columns.proofs.Parts.{passing, from_passing}
use Rattle.cut_rows.specs.CutProblem.{AreCutRows, IsCutProblem}
use Rattle.cut_rows.specs.Restored.{AreShown}

-- the test of the cut d, the k-th
abbrev Shown : Problem → ℕ → List Derived → List Derived → Type 0
Shown p k before cuts = first_failing (derived_tests p Two k before cuts) ≡ None

first_shown : (p : Problem) (k : ℕ) (before : List Derived) (d : Derived) (cuts : List Derived) → Shown p k before (d ∷ cuts) → (derived_passes p before d ≡ true) × Shown p (k + 1) (before ++ d ∷ []) cuts
first_shown p k before d cuts h = passing (record { part = Part.DerivedRow k; passes = derived_passes p before d }) (derived_tests p Two (k + 1) (before ++ d ∷ []) cuts) h

-- ---- cuts that pass whatever stands before them

shown_from : (p : Problem) (k : ℕ) (before cuts : List Derived) → ((there : List Derived) → list_all (derived_passes p there) cuts ≡ true) → Shown p k before cuts
shown_from p k before [] h = refl
shown_from p k before (d ∷ cuts) h =
    from_passing (record { part = Part.DerivedRow k; passes = derived_passes p before d }) (derived_tests p Two (k + 1) (before ++ d ∷ []) cuts) (and_parts _ _ (h before)).0
    (shown_from p (k + 1) (before ++ d ∷ []) cuts (λ there. (and_parts _ _ (h there)).1))

pub passing_are_shown : (p : Problem) (cuts : List Derived) → ((before : List Derived) → list_all (derived_passes p before) cuts ≡ true) → AreShown p cuts
passing_are_shown p cuts h = shown_from p 1 [] cuts h

-- ---- they are over the problem's columns

over_from : (p : Problem) (k : ℕ) (before cuts : List Derived) → Shown p k before cuts → list_all (λ (d : Derived). in_range (length p.columns) d.form) cuts ≡ true
over_from p k before [] h = refl
over_from p k before (d ∷ cuts) h =
    let both = first_shown p k before d cuts h in
    and_from _ _ (and_parts (in_range (length p.columns) d.form) (proof_passes p before d.form d.bound d.proof) both.0).0 (over_from p (k + 1) (before ++ d ∷ []) cuts both.1)

pub shown_are_over : (p : Problem) (cuts : List Derived) → AreShown p cuts → list_all (λ (d : Derived). in_range (length p.columns) d.form) cuts ≡ true
shown_are_over p cuts h = over_from p 1 [] cuts h

-- ---- no feasible point is lost

cuts_met : (p : Problem) (x : List Rational) → Feasible p x → (k : ℕ) (before cuts : List Derived) (rows : List Row) → AreCutRows cuts rows → Shown p k before cuts → AllDerived x before → meets_rows false rows x ≡ true
cuts_met p x f k before [] rows are h all = ap (λ (rs : List Row). meets_rows false rs x) are
cuts_met p x f k before (d ∷ cuts) [] are h all = absurd are
cuts_met p x f k before (d ∷ cuts) (r ∷ rows) are h all =
    let both = first_shown p k before d cuts h in
    let met = derived_sound p before x d f all both.0 in
    let above : (lies_above r.lower (sum_at x r.entries) && lies_below r.upper (sum_at x r.entries)) ≡ true = rw (are.0.lower, are.0.upper, are.0.entries) (and_from (is_at_most d.bound (sum_at x d.form)) true (true_at_most d.bound (sum_at x d.form) met) refl) in
    and_from _ _ above (cuts_met p x f (k + 1) (before ++ d ∷ []) cuts rows are.1 both.1 (derived_more x before d all met))

both_met : (rows more : List Row) (x : List Rational) → meets_rows false rows x ≡ true → meets_rows false more x ≡ true → meets_rows false (rows ++ more) x ≡ true
both_met [] more x h k = k
both_met (r ∷ rows) more x h k =
    let both = and_parts (lies_above r.lower (sum_at x r.entries) && lies_below r.upper (sum_at x r.entries)) (meets_rows false rows x) h in
    and_from _ _ both.0 (both_met rows more x both.1 k)

pub feasible_with : (p q : Problem) (cuts : List Derived) (x : List Rational) → IsCutProblem p cuts q → AreShown p cuts → Feasible p x → Feasible q x
feasible_with p q cuts x h shown f =
    let both = and_parts (meets_columns false p.columns x) (meets_rows false p.rows x) (true_meets p x f) in
    meets_true q x (and_from _ _
    (ap (λ (cs : List Column). meets_columns false cs x) h.columns ∙ both.0)
    (ap (λ (rs : List Row). meets_rows false rs x) h.all_rows ∙ both_met p.rows h.rows x both.1 (cuts_met p x f 1 [] cuts h.rows h.are_rows shown (λ k. tt))))
