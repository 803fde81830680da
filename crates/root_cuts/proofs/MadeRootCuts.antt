-- What is made at the basis of a best point is a cut of the root.
use Rattle.std.proofs.Common.{◌≡◌, ◌∙◌, ℕ, zero, suc, ◌+◌, inl, inr, ◌<◌, List, [], ◌∷◌, length, refl, sym, ap, subst, arith, true, IfSome}
use Rattle.rational.specs.Rational.{Rational, neg_ℚ, ◌<ℚ◌}
use Rattle.milp.specs.Form.{number_at}
use Rattle.milp.specs.Problem.{Problem}
use Rattle.milp.specs.Points.{IsWithin}
use Rattle.verdicts.specs.Certificate.{Derived}
use Rattle.basis.specs.System.{System, size, lower_of, upper_of, AllInside}
use Rattle.basis.specs.Dictionary.{place_of, IsBasic, Dictionary, rate_of, gain_of, RestsAt}
use Rattle.basis.specs.Bland.{CanRaise, Improves, IsOptimalBasis}
use Rattle.basis.specs.Node.{IsOverColumns}
use Rattle.basis.specs.Weights.{numbers_from}
use Rattle.basis.specs.declared.Place.{Place}
use Rattle.basis.specs.declared.Place.TheVariants.{Basic, AtLower, AtUpper, AtZero}
use Rattle.basis.specs.Relaxation.{IsOptimalRelaxation}
use Rattle.verdicts.specs.Certificate.{Weights}
use Rattle.std.specs.Prelude.{Option, Some, None, Result, Ok, Err, IfOk}
use Rattle.basis.proofs.Laws.{not_resting, length-numbers, numbers-below, node_size, is_system}
use Rattle.dictionary.specs.Table.{is_basic}
use Rattle.std.specs.List.{list_all, AllByRecursion}
use Rattle.std.proofs.lemmas.Bool.{and_parts, and_from}
use Rattle.verdicts.specs.Proves.{in_range, proof_passes}
use Rattle.gomory.proofs.CutLaws.{root_passes}
use Rattle.gomory.specs.Cuts.{HasCut, IsGomoryCut, IsOptimalAtRoot, IsRootCut}
use Rattle.root_cuts.specs.RootBasis.{root_system, AreSettled, variable_number, numbers_of, rate_at}
use Rattle.root_cuts.specs.RootCuts.{IsCutOf, AreCutsFrom, AreRootCuts}
use Rattle.root_cuts.proofs.SettledPlaces.{settled_rests, fixed_below, rests_before, settled_dictionary}
use Rattle.root_cuts.proofs.RootPoint.{extended_is, same_solves}
use Rattle.root_cuts.proofs.CutsBelow.{AreCutsBelow, below_from}

module _ (p : Problem) (over : IsOverColumns p [] []) (b c : List Place) (d : Dictionary) (values : ℕ → Rational) (x : List Rational)
    (best : IsOptimalBasis (root_system p) b d values) (point : x ≡ numbers_from 0 (length p.columns) values) (moved : AreSettled p b c) where
  abbrev pub s : System
  s = root_system p

  -- all numbers at the point
  abbrev pub at : ℕ → Rational
  at = numbers_of p c x

  pub places_size : length c ≡ size s
  places_size = moved.size ∙ best.is_dictionary.size

  same_columns : (j : ℕ) → j < length p.columns → number_at x j ≡ values j
  same_columns j known = ap (λ (l : List Rational). number_at l j) point ∙ numbers-below (length p.columns) values j known

  pub same_numbers : (v : ℕ) → v < size s → at v ≡ values v
  same_numbers v known = numbers-below (length c) (variable_number p x) v (let n = places_size in omega (arith, n, known))
      ∙ extended_is s (is_system p [] [] over) (number_at x) values same_columns best.is_point.solves v known

  known_before : (v : ℕ) → v < length c → v < length b
  known_before v known = let n = moved.size in omega (arith, n, known)

  in_system : (v : ℕ) → v < length c → v < size s
  in_system v known = let n = places_size in omega (arith, n, known)

  rests : (v : ℕ) → v < length c → RestsAt s (place_of c v) v (at v)
  rests v known =
      subst (λ (a : Rational). RestsAt s (place_of c v) v a) (sym (same_numbers v (in_system v known)))
      (subst (λ (place : Place). RestsAt s place v (values v)) (sym (moved.places v (known_before v known)))
      (settled_rests s v (values v) (place_of b v) (best.inside v (in_system v known)) (best.is_point.rests v (known_before v known))))

  inside : AllInside s at
  inside v known = subst (λ (a : Rational). IsWithin (lower_of s v) (upper_of s v) a) (sym (same_numbers v known)) (best.inside v known)

  raises : (q : ℕ) (rate : Rational) → at q ≡ values q → CanRaise s at q rate → CanRaise s values q rate
  raises q rate e h = elim h [
    | inl up ↦ inl (up.0, subst (λ (a : Rational). IfSome (upper_of s q) (λ u. a <ℚ u)) e up.1)
    | inr down ↦ inr (down.0, subst (λ (a : Rational). IfSome (lower_of s q) (λ l. l <ℚ a)) e down.1)
  ]

  none_improves : (q : ℕ) → ¬ (Improves s c at d q)
  none_improves q h = best.none_improves q (record { resting = rests_before p b c moved q h.resting; can_improve = raises q (neg_ℚ (gain_of d q)) (same_numbers q (in_system q h.resting.known)) h.can_improve })

  upper_known : (v : ℕ) → place_of c v ≡ AtUpper → v < length c
  upper_known v e = known_place c v e
    where
      known_place : (l : List Place) (v : ℕ) → place_of l v ≡ AtUpper → v < length l
      known_place [] v e = cc
      known_place (q ∷ l) zero e = omega arith
      known_place (q ∷ l) (suc v) e = let k = known_place l v e in omega (arith, k)

  fixed_at_lower : (v : ℕ) → place_of c v ≡ AtUpper → ¬ (lower_of s v ≡ upper_of s v)
  fixed_at_lower v e =
      let known = known_before v (upper_known v e) in
      fixed_below s v (values v) (place_of b v) (best.is_point.rests v known) (sym (moved.places v known) ∙ e)

  pub is_optimal : IsOptimalAtRoot p c at d
  is_optimal = record {
    is_dictionary = settled_dictionary p b c moved d best.is_dictionary;
    is_point = record { rests = rests; solves = same_solves s (is_system p [] [] over) at values same_numbers best.is_point.solves };
    inside = inside;
    none_improves = none_improves;
    fixed_at_lower = fixed_at_lower;
  }

  -- ---- rates

  is_rate : (r v : ℕ) → IsBasic b r → (t : Place) → place_of b v ≡ t → rate_at b d r v ≡ rate_of d v r
  is_rate r v basic Basic e = rw e (sym (not_resting b (d.row r) v (best.is_dictionary.over_resting.rows r basic) (λ rests. rests.not_basic e)))
  is_rate r v basic AtLower e = rw e refl
  is_rate r v basic AtUpper e = rw e refl
  is_rate r v basic AtZero e = rw e refl

  pub are_rates : (r : ℕ) → IsBasic b r → (v : ℕ) → v < size s → number_at (numbers_from 0 (length b) (rate_at b d r)) v ≡ rate_of d v r
  are_rates r basic v known = numbers-below (length b) (rate_at b d r) v (let n = best.is_dictionary.size in omega (arith, n, known)) ∙ is_rate r v basic (place_of b v) refl

  pub is_cut_of : (r : ℕ) (rates numbers : List Rational) (cut : Derived) → IsBasic b r → rates ≡ numbers_from 0 (length b) (rate_at b d r)
      → numbers ≡ numbers_from 0 (length c) (variable_number p x) → HasCut p c (number_at rates) (number_at numbers) r
      → IsGomoryCut p c (number_at rates) (number_at numbers) r cut → IsCutOf p c at d r cut
  is_cut_of r rates numbers cut basic e f has is =
      let P : List Rational → Type 0 = λ l. HasCut p c (number_at rates) (number_at l) r in
      let Q : List Rational → Type 0 = λ l. IsGomoryCut p c (number_at rates) (number_at l) r cut in
      record {
        rates = number_at rates;
        are_rates = λ v known. ap (λ (l : List Rational). number_at l v) e ∙ are_rates r basic v known;
        has_cut = subst P f has;
        is_cut = subst Q f is;
      }

-- ---- at a best point

pub numbers_of_columns : (p : Problem) (x : List Rational) (w : Weights) (b : List Place) (d : Dictionary) → IsOptimalRelaxation p [] [] x w b d → length x ≡ length p.columns
numbers_of_columns p x w b d best = ap length best.point ∙ length-numbers 0 (length p.columns) best.values

pub is_basic_true : (b : List Place) (v : ℕ) → is_basic (place_of b v) ≡ true → IsBasic b v
is_basic_true b v e = by_place (place_of b v) e
  where
    by_place : (place : Place) → is_basic place ≡ true → place ≡ Basic
    by_place Basic e = refl
    by_place AtLower e = cc
    by_place AtUpper e = cc
    by_place AtZero e = cc

pub of_some : {A : Type 0} (o : Option A) (x : A) (P : A → Type 0) → o ≡ Some x → IfSome o P → P x
of_some o x P e h = subst (λ (t : Option _). IfSome t P) e h

-- a cut that is kept is the one that was made
pub kept_cut : (o : Option Derived) (cut : Derived) (P : Derived → Type 0) → IfSome o (λ kept. kept ≡ cut) → P cut → IfSome o P
kept_cut None cut P e h = tt
kept_cut (Some kept) cut P e h = subst P (sym e) h

module _ (p : Problem) (over : IsOverColumns p [] []) (x : List Rational) (w : Weights) (b c : List Place) (d : Dictionary) (best : IsOptimalRelaxation p [] [] x w b d) (moved : AreSettled p b c) where
  pub places_known : length c ≡ length p.columns + length p.rows
  places_known = places_size p over b c d best.values x best.is_optimal best.point moved ∙ node_size p [] [] ∙ (let e : length p.columns + (length p.rows + 0) ≡ length p.columns + length p.rows = omega arith in e)

  pub rates_known : (rates : List Rational) (r : ℕ) → rates ≡ numbers_from 0 (length b) (rate_at b d r) → length rates ≡ length c
  rates_known rates r e = ap length e ∙ length-numbers 0 (length b) (rate_at b d r) ∙ sym moved.size

  pub numbers_known : (numbers : List Rational) → numbers ≡ numbers_from 0 (length c) (variable_number p x) → length numbers ≡ length c
  numbers_known numbers e = ap length e ∙ length-numbers 0 (length c) (variable_number p x)

  pub best_cut : (r : ℕ) (rates numbers : List Rational) (cut : Derived) → IsBasic b r → rates ≡ numbers_from 0 (length b) (rate_at b d r)
      → numbers ≡ numbers_from 0 (length c) (variable_number p x) → HasCut p c (number_at rates) (number_at numbers) r
      → IsGomoryCut p c (number_at rates) (number_at numbers) r cut → IsCutOf p c (numbers_of p c x) d r cut
  best_cut = is_cut_of p over b c d best.values x best.is_optimal best.point moved

  -- cuts of columns below the bound are cuts of the root
  pub are_root_cuts : (bound : ℕ) (cuts : List Derived) → AreCutsBelow p c (numbers_of p c x) d bound 0 cuts → AreRootCuts p cuts
  are_root_cuts bound [] h = tt
  are_root_cuts bound (cut ∷ cuts) h = record {
    basis = c;
    point = numbers_of p c x;
    dictionary = d;
    is_optimal = is_optimal p over b c d best.values x best.is_optimal best.point moved;
    are_cuts = below_from p c (numbers_of p c x) d bound 0 (cut ∷ cuts) h;
  }

-- each of them is the cut of a column at an optimal basis
are_each : (p : Problem) (b : List Place) (x : ℕ → Rational) (d : Dictionary) → IsOptimalAtRoot p b x d → (least : ℕ) (cuts : List Derived) → AreCutsFrom p b x d least cuts → AllByRecursion (IsRootCut p) cuts
are_each p b x d best least [] h = tt
are_each p b x d best least (cut ∷ cuts) h = (
  record { basis = b; point = x; dictionary = d; is_optimal = best; column = h.0; rates = h.2.rates; are_rates = h.2.are_rates; has_cut = h.2.has_cut; is_cut = h.2.is_cut },
  are_each p b x d best (h.0 + 1) cuts h.3,
)

each_root_cut : (p : Problem) (cuts : List Derived) → AreRootCuts p cuts → AllByRecursion (IsRootCut p) cuts
each_root_cut p [] h = tt
each_root_cut p (cut ∷ cuts) h = are_each p h.basis h.point h.dictionary h.is_optimal 0 (cut ∷ cuts) h.are_cuts

-- the forms of cuts of the root are over the problem's columns
root_cuts_within : (p : Problem) → IsOverColumns p [] [] → (cuts : List Derived) → AllByRecursion (IsRootCut p) cuts → list_all (λ (d : Derived). in_range (length p.columns) d.form) cuts ≡ true
root_cuts_within p over [] h = refl
root_cuts_within p over (d ∷ cuts) h = and_from _ _ (and_parts (in_range (length p.columns) d.form) (proof_passes p [] d.form d.bound d.proof) (root_passes p d [] over h.0)).0 (root_cuts_within p over cuts h.1)

pub found_within : {E : Type 0} (p : Problem) → IsOverColumns p [] [] → (r : Result (List Derived) E) → IfOk r (AreRootCuts p) → IfOk r (λ cuts. list_all (λ (d : Derived). in_range (length p.columns) d.form) cuts ≡ true)
found_within p over (Ok cuts) h = root_cuts_within p over cuts (each_root_cut p cuts h)
found_within p over (Err e) h = tt
