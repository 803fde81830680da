-- The operations that the simplex method makes at a node are on its site numbers.
use Rattle.std.proofs.Common.{◌≡◌, ◌∙◌, ℕ, zero, suc, List, [], ◌∷◌, length, ◌<◌, ◌≢◌, ◌⊎◌, inl, inr, refl, sym, ap, subst, arith, slice_get, IfSome}
use Rattle.std.specs.Prelude.{pos, negsuc, Bool, Some, Option, option_map}
use Rattle.std.proofs.Math.Decide.{ℕ_discrete}
use Rattle.std.proofs.lemmas.List.{take_all}
use Rattle.std.proofs.lemmas.Option.{slice_get-map}
use Rattle.rational.specs.Rational.{Rational, one_ℚ, whole, neg_ℚ, inv_ℚ, ◌+ℚ◌, ◌-ℚ◌, ◌*ℚ◌, ◌/ℚ◌}
use Rattle.rational.specs.Denominators.{common_denominator}
use Rattle.rational.proofs.Laws as Q
use Rattle.milp.specs.Form.{Entry}
use Rattle.milp.specs.Problem.{Problem}
use Rattle.verdicts.specs.Certificate.{Side, Derived}
use Rattle.verdicts.specs.WeightedSums.{AllBelow}
use Rattle.verdicts.proofs.Laws.{minus_one-mul}
use Rattle.basis.specs.System.{System, size, IsSystem}
use Rattle.basis.specs.Dictionary.{IsBasic, IsResting, Dictionary, IsDictionary, rate_of, gain_of, IsBasicPoint}
use Rattle.basis.specs.Bland.{exchanged, IsDirection, IsStart, start_point, IsRun}
use Rattle.basis.specs.Pivots.{Operation, IsRowOf, IsPivotOperation, IsLengthOperation, IsMoveOperation}
use Rattle.basis.specs.Node.{system_of, integer_at, IsOverColumns}
use Rattle.basis.specs.Weights.{integer_numbers, IsDirectionOfRun}
use Rattle.basis.specs.Relaxation.{IsUnboundedBasis}
use Rattle.basis.specs.Operations.{IsSumOperation, IsBoundAt, LiesAhead, IsRunOperation, IsNodeOperation}
use Rattle.basis.specs.Numbers.{IsSiteNumber, IsSitePair, IsGivenNumber, IsCoefficient, IsPointOfRun, IsRunBase, IsRunProducts, IsRunCommon, products_of, run_numbers, IsProblemNumber, IsNodeBase, node_numbers}
use Rattle.basis.specs.declared.Place.{Place}
use Rattle.basis.specs.declared.Place.TheVariants.{Basic, AtLower, AtUpper, AtZero}
use Rattle.basis.proofs.Places.{enters_basic, basic_known, is_basic_or}
use Rattle.basis.proofs.Exists.{pivoted, is_pivoted, pivoted_is}
use Rattle.basis.proofs.Start.{start_is_point}
use Rattle.basis.proofs.NodeSystems.{is_system, node_size}
use Rattle.basis.proofs.NumberFacts.{pair_within, run_within_node, up_or_down}

-- an entry of a form over columns is one of them
all_below : (n : ℕ) (form : List Entry) (i : ℕ) (e : Entry) → AllBelow n form → slice_get form i ≡ Some e → e.column < n
all_below n [] i e h is = absurd cc
all_below n (d ∷ form) zero e h is = let same : d ≡ e = cc in let P : Entry → Type 0 = λ f. f.column < n in subst P same h.0
all_below n (d ∷ form) (suc i) e h is = all_below n form i e h.1 is

two_base : (s : System) (integer : ℕ → Bool) (a c : Rational) → IsRunBase s integer a → IsRunBase s integer c → IsSitePair (run_numbers s integer) a c
two_base s integer a c h k = IsSitePair.left_base h (IsSiteNumber.base_number k)

-- ---- a pivot

module _ (s : System) (integer : ℕ → Bool) (b : List Place) (before : List (List Place)) (d : Dictionary) (q r : ℕ) (place : Place)
    (run : IsRun s (exchanged b q r place) (b ∷ before)) (is_dictionary : IsDictionary s b d) (leaves : IsBasic b r) (enters : IsResting b q) (stops : place ≢ Basic)
    (some_rate : ¬ ((rate_of d q r).numerator ≡ pos 0)) where
  rate_base : (v j : ℕ) → IsBasic b v → (a : Rational) → a ≡ rate_of d j v → IsRunBase s integer a
  rate_base v j h a e = IsRunBase.coefficient (IsCoefficient.of_row b before d v j run.1 is_dictionary h e)

  gain_base : (j : ℕ) (a : Rational) → a ≡ gain_of d j → IsRunBase s integer a
  gain_base j a e = IsRunBase.coefficient (IsCoefficient.of_objective b before d j run.1 is_dictionary e)

  new_is : IsDictionary s (exchanged b q r place) (pivoted d q r)
  new_is = pivoted_is s b d q r place is_dictionary leaves enters stops some_rate

  now_basic : IsBasic (exchanged b q r place) q
  now_basic = enters_basic b q r place enters.known (λ w. (let T : ℕ → Type 0 = IsBasic b in enters.not_basic (subst T (sym w) leaves)))

  entering_base : (j : ℕ) → IsResting b j → j ≢ q → (a : Rational) → a ≡ neg_ℚ (rate_of d j r /ℚ rate_of d q r) → IsRunBase s integer a
  entering_base j h n a e =
      IsRunBase.coefficient (IsCoefficient.of_row (exchanged b q r place) (b ∷ before) (pivoted d q r) q j run new_is now_basic
      (e ∙ sym ((is_pivoted s b d q r place is_dictionary leaves enters stops some_rate).entering_row j h n)))

  product_site : (k e a : Rational) → IsRunBase s integer k → IsRunBase s integer e → a ≡ k *ℚ e → IsSiteNumber (run_numbers s integer) a
  product_site k e a h m same = IsSiteNumber.product k e h m same

  row_base : (f : ℕ → Rational) (j : ℕ) → IsRowOf b d f → (a : Rational) → a ≡ f j → IsRunBase s integer a
  row_base f j (IsRowOf.of_basic v h k) a e = rate_base v j h a (e ∙ k j)
  row_base f j (IsRowOf.of_objective k) a e = gain_base j a (e ∙ k j)

  corner_base : (a : Rational) → a ≡ inv_ℚ (rate_of d q r) → IsRunBase s integer a
  corner_base a e =
      IsRunBase.coefficient (IsCoefficient.of_row (exchanged b q r place) (b ∷ before) (pivoted d q r) q r run new_is now_basic
      (e ∙ sym ((is_pivoted s b d q r place is_dictionary leaves enters stops some_rate).corner)))

  pivot_operation : (a : Rational) (op : Operation) (c : Rational) → IsPivotOperation b d q r a op c → IsSitePair (run_numbers s integer) a c
  pivot_operation a op c (IsPivotOperation.reciprocal e o f) = two_base s integer a c (IsRunBase.minus_one e) (rate_base r q leaves c f)
  pivot_operation a op c (IsPivotOperation.quotient j e o f) = two_base s integer a c (rate_base r j leaves a e) (rate_base r q leaves c f)
  pivot_operation a op c (IsPivotOperation.product f j h k n e o g) = two_base s integer a c (row_base f q h a e) (entering_base j k n c g)
  pivot_operation a op c (IsPivotOperation.sum f j h k n e o g) = IsSitePair.right_base (product_site _ _ a (row_base f q h _ refl) (entering_base j k n _ refl) e) (row_base f j h c g)
  pivot_operation a op c (IsPivotOperation.product_at_leaving f h e o g) = two_base s integer a c (row_base f q h a e) (corner_base c g)
  pivot_operation a op c (IsPivotOperation.sum_at_leaving f h e o g) = IsSitePair.right_base (product_site _ _ a (row_base f q h _ refl) (corner_base _ refl) e) (IsRunBase.zero_number g)

-- ---- a step's length

module _ (s : System) (integer : ℕ → Bool) (b : List Place) (before : List (List Place)) (d : Dictionary) (x : ℕ → Rational) (q : ℕ)
    (run : IsRun s b before) (is_dictionary : IsDictionary s b d) (is_point : IsBasicPoint s b x) where
  point_base : (v : ℕ) → v < size s → (a : Rational) → a ≡ x v → IsRunBase s integer a
  point_base v h a e = IsRunBase.coordinate (record { point = x; is_point = record { basis = b; before = before; is_run = run; is_point = is_point }; variable = v; known = h; same = e })

  length_operation : (v : ℕ) (bound a : Rational) (op : Operation) (c : Rational) → v < size s → IsRunBase s integer bound → IsLengthOperation b x d q v bound a op c → IsSitePair (run_numbers s integer) a c
  length_operation v bound a op c h k (IsLengthOperation.way e o f) = two_base s integer a c (subst (IsRunBase s integer) (sym e) k) (point_base v h c f)
  length_operation v bound a op c h k (IsLengthOperation.length basic e o f) =
      IsSitePair.right_base (IsSiteNumber.difference bound (x v) k (point_base v h _ refl) e) (IsRunBase.coefficient (IsCoefficient.of_row b before d v q run is_dictionary basic f))

-- a bound is a given number
bound_at : (s : System) (integer : ℕ → Bool) (v : ℕ) (place : Place) (a : Rational) → IsBoundAt s v place a → IsRunBase s integer a
bound_at s integer v Basic a h = absurd h
bound_at s integer v AtLower a h = IsRunBase.given (IsGivenNumber.of_lower v h)
bound_at s integer v AtUpper a h = IsRunBase.given (IsGivenNumber.of_upper v h)
bound_at s integer v AtZero a h = absurd h

bound_ahead : (s : System) (integer : ℕ → Bool) (v : ℕ) (rate a : Rational) → LiesAhead s v rate a → IsRunBase s integer a
bound_ahead s integer v rate a (inl h) = IsRunBase.given (IsGivenNumber.of_upper v h.1)
bound_ahead s integer v rate a (inr h) = IsRunBase.given (IsGivenNumber.of_lower v h.1)

-- ---- the point after a step

module _ (s : System) (integer : ℕ → Bool) (b c : List Place) (before : List (List Place)) (d : Dictionary) (x : ℕ → Rational) (q : ℕ) (t : Rational) (r : ℕ → Rational)
    (run : IsRun s c (b ∷ before)) (is_dictionary : IsDictionary s b d) (is_point : IsBasicPoint s b x) (is_direction : IsDirection b d q one_ℚ r) (known : q < size s)
    (next : IsBasicPoint s c (λ v. x v +ℚ t *ℚ r v)) where
  old_base : (v : ℕ) → v < size s → (a : Rational) → a ≡ x v → IsRunBase s integer a
  old_base v h a e = IsRunBase.coordinate (record { point = x; is_point = record { basis = b; before = before; is_run = run.1; is_point = is_point }; variable = v; known = h; same = e })

  new_base : (v : ℕ) → v < size s → IsRunBase s integer (x v +ℚ t *ℚ r v)
  new_base v h = IsRunBase.coordinate (record { point = λ w. x w +ℚ t *ℚ r w; is_point = record { basis = c; before = b ∷ before; is_run = run; is_point = next }; variable = v; known = h; same = refl })

  -- what a variable changes by is a difference of its numbers in the two points
  change : (y m : Rational) → m ≡ (y +ℚ m) -ℚ y
  change y m = sym (ap (λ u. u -ℚ y) (Q.add_comm y m) ∙ Q.add_assoc m y (neg_ℚ y) ∙ ap (λ u. m +ℚ u) (Q.add-neg y) ∙ Q.add-zero m)

  moved_by : (v : ℕ) → v < size s → (a : Rational) → a ≡ t *ℚ r v → IsSiteNumber (run_numbers s integer) a
  moved_by v h a e = IsSiteNumber.difference (x v +ℚ t *ℚ r v) (x v) (new_base v h) (old_base v h _ refl) (e ∙ change (x v) (t *ℚ r v))

  length_site : (a : Rational) → a ≡ t → IsSiteNumber (run_numbers s integer) a
  length_site a e = moved_by q known a (e ∙ sym (ap (λ u. t *ℚ u) is_direction.mover ∙ Q.mul-one t))

  move_operation : (a : Rational) (op : Operation) (m : Rational) → IsMoveOperation s b x d q t a op m → IsSitePair (run_numbers s integer) a m
  move_operation a op m (IsMoveOperation.mover e o f) = IsSitePair.left_base (old_base q known a e) (length_site m f)
  move_operation a op m (IsMoveOperation.product v h basic e o f) = IsSitePair.left_base (IsRunBase.coefficient (IsCoefficient.of_row b before d v q run.1 is_dictionary basic e)) (length_site m f)
  move_operation a op m (IsMoveOperation.sum v h basic e o f) =
      IsSitePair.right_base (moved_by v h a (e ∙ Q.mul_comm (rate_of d q v) t ∙ ap (λ u. t *ℚ u) (sym (is_direction.basics v basic ∙ Q.one-mul _)))) (old_base v h m f)

-- ---- the start

module _ (s : System) (integer : ℕ → Bool) (b : List Place) (is_system : IsSystem s) (start : IsStart s b) where
  point_of_run : IsPointOfRun s (start_point s)
  point_of_run = record { basis = b; before = []; is_run = start; is_point = start_is_point s b is_system start }

  module _ (k : ℕ) (form : List Entry) (is_form : slice_get s.forms k ≡ Some form) where
    given : (i : ℕ) (entry : Entry) → slice_get form i ≡ Some entry → (a : Rational) → a ≡ entry.coefficient → IsRunBase s integer a
    given i entry is_entry a e = IsRunBase.given (IsGivenNumber.of_form k form i entry is_form is_entry e)

    below : (i : ℕ) (entry : Entry) → slice_get form i ≡ Some entry → entry.column < size s
    below i entry is_entry = let P : Option (List Entry) → Type 0 = λ o. IfSome o (AllBelow s.columns) in
        let h = all_below s.columns form i entry (subst P is_form (is_system.forms k)) is_entry in omega arith

    coordinate : (i : ℕ) (entry : Entry) → slice_get form i ≡ Some entry → (a : Rational) → a ≡ start_point s entry.column → IsRunBase s integer a
    coordinate i entry is_entry a e = IsRunBase.coordinate (record { point = start_point s; is_point = point_of_run; variable = entry.column; known = below i entry is_entry; same = e })

    next_term : (i : ℕ) (entry : Entry) → slice_get form i ≡ Some entry → slice_get (products_of form (start_point s)) i ≡ Some (entry.coefficient *ℚ start_point s entry.column)
    next_term i entry is_entry = slice_get-map (λ (e : Entry). e.coefficient *ℚ start_point s e.column) form i ∙ ap (option_map (λ (e : Entry). e.coefficient *ℚ start_point s e.column)) is_entry

    start_operation : (a : Rational) (op : Operation) (c : Rational) → IsSumOperation form (start_point s) a op c → IsSitePair (run_numbers s integer) a c
    start_operation a op c (IsSumOperation.product i entry is_entry e o f) = two_base s integer a c (given i entry is_entry a e) (coordinate i entry is_entry c f)
    start_operation a op c (IsSumOperation.sum i entry is_entry e o f) =
        IsSitePair.next_product (products_of form (start_point s)) i (IsRunProducts.along_form k form (start_point s) is_form (inl point_of_run) refl) e (next_term i entry is_entry ∙ ap Some (sym f))

-- ---- all operations

pub run_operation : (s : System) (integer : ℕ → Bool) (a : Rational) (op : Operation) (c : Rational) → IsSystem s → IsRunOperation s a op c → IsSitePair (run_numbers s integer) a c
run_operation s integer a op c is_system (IsRunOperation.at_start b k form start is_form h) = start_operation s integer b is_system start k form is_form a op c h
run_operation s integer a op c is_system (IsRunOperation.of_mending b before d x q v place bound run is_dictionary is_point m at h) =
    length_operation s integer b before d x q run is_dictionary is_point v bound a op c known (bound_at s integer v place bound at) h
  where
    known : v < size s
    known = let k = basic_known b v m.first_outside.holds.basic in let e = is_dictionary.size in omega arith
run_operation s integer a op c is_system (IsRunOperation.of_improving b before d x q heading r v bound run is_dictionary is_point none first is_heading direction known ahead h) =
    length_operation s integer b before d x q run is_dictionary is_point v bound a op c known (bound_ahead s integer v (r v) bound ahead) h
run_operation s integer a op c is_system (IsRunOperation.of_move b next before d x q t r run is_dictionary is_point direction known there h) =
    move_operation s integer b next before d x q t r run is_dictionary is_point direction known there a op c h
run_operation s integer a op c is_system (IsRunOperation.of_pivot b before d q r place run is_dictionary leaves enters stops some h) =
    pivot_operation s integer b before d q r place run is_dictionary leaves enters stops some a op c h

module _ (p : Problem) (ds : List Derived) (sides : List Side) where
  abbrev s : System
  s = system_of p ds sides

  within : (a c : Rational) → IsSitePair (run_numbers s (integer_at p)) a c → IsSitePair (node_numbers p ds sides) a c
  within a c h = pair_within (run_numbers s (integer_at p)) (node_numbers p ds sides) (run_within_node p ds sides) a c h

  -- the direction in which a variable moves without end
  module _ (b : List Place) (d : Dictionary) (x : ℕ → Rational) (q : ℕ) (r : ℕ → Rational) (u : IsUnboundedBasis s b d x q r) where
    abbrev of_run : IsDirectionOfRun s r
    of_run = record {
      basis = b;
      before = u.before;
      is_run = u.is_run;
      dictionary = d;
      is_dictionary = u.is_dictionary;
      mover = q;
      resting = u.first_improving.holds.resting;
      heading = u.heading;
      up_or_down = up_or_down d q u.heading u.is_heading;
      is_direction = u.is_direction;
    }

    common : IsRunCommon s (integer_at p) (integer_numbers s (integer_at p) r)
    common = IsRunCommon.along_direction r of_run refl

    headed : (a rate : Rational) → IsCoefficient s rate → (a ≡ one_ℚ) ⊎ (a ≡ whole (negsuc 0)) → IsRunBase s (integer_at p) (a *ℚ rate)
    headed a rate k (inl e) = IsRunBase.coefficient (subst (IsCoefficient s) (sym (ap (λ u. u *ℚ rate) e ∙ Q.one-mul rate)) k)
    headed a rate k (inr e) = IsRunBase.minus_coefficient rate k (ap (λ u. u *ℚ rate) e ∙ minus_one-mul rate)

    unit_base : (a : Rational) → (a ≡ one_ℚ) ⊎ (a ≡ whole (negsuc 0)) → IsRunBase s (integer_at p) a
    unit_base a (inl e) = IsRunBase.one_number e
    unit_base a (inr e) = IsRunBase.minus_one e

    direction_base : (v : ℕ) → v < length b → IsRunBase s (integer_at p) (r v)
    direction_base v k = elim (ℕ_discrete v q) [
      | yes same ↦ subst (IsRunBase s (integer_at p)) (sym (ap r same ∙ u.is_direction.mover)) (unit_base u.heading of_run.up_or_down)
      | no differ ↦ elim (is_basic_or b v k) [
        | inl basic ↦ subst (IsRunBase s (integer_at p)) (sym (u.is_direction.basics v basic)) (headed u.heading (rate_of d q v) (IsCoefficient.of_row b u.before d v q u.is_run u.is_dictionary basic refl) of_run.up_or_down)
        | inr rests ↦ IsRunBase.zero_number (u.is_direction.others v rests differ)
      ]
    ]

    known : (v : ℕ) → v < length p.columns → v < length b
    known v k = let e = u.is_dictionary.size in let z = node_size p ds sides in omega arith

    made : (v : ℕ) (a c : Rational) → v < length p.columns → a ≡ r v → c ≡ whole (pos (common_denominator 1 (integer_numbers s (integer_at p) r))) → IsSitePair (node_numbers p ds sides) a c
    made v a c k e f = within a c
        (IsSitePair.left_base (subst (IsRunBase s (integer_at p)) (sym e) (direction_base v (known v k)))
        (IsSiteNumber.denominator (integer_numbers s (integer_at p) r) (length (integer_numbers s (integer_at p) r)) common
        (f ∙ ap (λ l. whole (pos (common_denominator 1 l))) (sym (take_all (length (integer_numbers s (integer_at p) r)) (integer_numbers s (integer_at p) r) (omega arith))))))

  pub node_operation : (a : Rational) (op : Operation) (c : Rational) → IsOverColumns p ds sides → IsNodeOperation p ds sides a op c → IsSitePair (node_numbers p ds sides) a c
  node_operation a op c over (IsNodeOperation.of_run h) = within a c (run_operation s (integer_at p) a op c (is_system p ds sides over) h)
  node_operation a op c over (IsNodeOperation.above_split k side is e o f) =
      IsSitePair.left_base (IsNodeBase.of_problem (IsProblemNumber.of_split k side is e)) (IsSiteNumber.base_number (IsNodeBase.of_run (IsRunBase.one_number f)))
  node_operation a op c over (IsNodeOperation.of_denominators b d x q r n number u is e f) =
      within a c (IsSitePair.next_denominator (integer_numbers s (integer_at p) r) n number (common b d x q r u) e is f)
  node_operation a op c over (IsNodeOperation.of_ray b d x q r v u k e o f) = made b d x q r u v a c k e f
