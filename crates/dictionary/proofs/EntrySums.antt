-- Entries plus a multiple of other entries, one entry after the other.
use Rattle.std.proofs.Common.{◌≡◌, ◌∙◌, ℕ, ◌+◌, ◌<◌, ◌≤◌, ◌≢◌, List, [], ◌∷◌, ◌++◌, length, get_or, take, drop, append_assoc, refl, sym, ap, subst, arith}
use Rattle.std.specs.Prelude.{slice_get, Some}
use Rattle.std.proofs.lemmas.List.{drop_more, take_more, take_all, drop_all}
use Rattle.std.proofs.lemmas.Option.{slice_get-get_or}
use Rattle.std.proofs.Math.Decide.{ℕ_discrete}
use mathlib.Core.Path.{ap₂}
use Rattle.rational.specs.Rational.{Rational, zero_ℚ, ◌+ℚ◌, ◌*ℚ◌}
use Rattle.rational.proofs.Laws as Q
use Rattle.rational.proofs.Laws.{field, field_units}
use Rattle.milp.specs.Form.{Entry}
use Rattle.verdicts.specs.WeightedSums.{AllBelow, coefficient_of}
use Rattle.verdicts.proofs.Laws.{coefficient-append}
use Rattle.fraction.specs.declared.frac.NoFit.{NoFit}
use Rattle.dictionary.specs.Ascending.{IsAscending}
use Rattle.dictionary.specs.Faults.{IfNoFit}
use Rattle.dictionary.specs.declared.fault.Fault.{Fault}
use Rattle.dictionary.specs.declared.fault.Fault.TheVariants.{NoFit as no_fit, NoMemory as no_memory}
use Rattle.dictionary.specs.Rows.{IsProductOrSum}
use Rattle.dictionary.specs.Sparse.{entry_unless_zero, IsAdded, IsMerged, IsMergeFault}
use Rattle.dictionary.proofs.EntryLists.{before, beyond, alone_here, alone_other, below_more, below_joined, below_left, below_right, ascending_left, ascending_right, ascending_joined, coefficient_at, below_at, unless_below, unless_ascending, unless_coefficient}

-- ---- one entry

-- `rest` is `front` and then `high`, and the entry is added between
module _ (done front high behind : List Entry) (factor number own : Rational) (entry : Entry)
    (ascending : IsAscending 0 (done ++ (front ++ high))) (done_low : AllBelow entry.column done) (front_low : AllBelow entry.column front)
    (own_is : own ≡ coefficient_of high entry.column) where
  together : done ++ (front ++ high) ≡ (done ++ front) ++ high
  together = sym (append_assoc done front high)

  all_low : AllBelow entry.column (done ++ front)
  all_low = below_joined entry.column done front done_low front_low

  split : (j : ℕ) → coefficient_of (done ++ (front ++ high)) j ≡ coefficient_of (done ++ front) j +ℚ coefficient_of high j
  split j = ap (λ es. coefficient_of es j) together ∙ coefficient-append (done ++ front) high j

  -- the coefficient before the entry is added
  pub own_before : own ≡ coefficient_of (done ++ (front ++ high)) entry.column
  own_before = own_is ∙ sym (Q.zero-add _) ∙ ap (λ t. t +ℚ coefficient_of high entry.column) (sym (beyond entry.column (done ++ front) entry.column all_low (omega arith))) ∙ sym (split entry.column)

  module _ (number_is : number ≡ factor *ℚ entry.coefficient +ℚ own) (behind_ascending : IsAscending (entry.column + 1) behind)
      (others : (j : ℕ) → j ≢ entry.column → coefficient_of behind j ≡ coefficient_of high j) (behind_below : (n : ℕ) → AllBelow n high → AllBelow n behind) where
    abbrev now : Entry
    now = record { column = entry.column; coefficient = number }

    joined : ((done ++ front) ++ entry_unless_zero now) ++ behind ≡ (done ++ front) ++ (entry_unless_zero now ++ behind)
    joined = append_assoc (done ++ front) (entry_unless_zero now) behind

    new_split : (j : ℕ) → coefficient_of (((done ++ front) ++ entry_unless_zero now) ++ behind) j ≡ coefficient_of (done ++ front) j +ℚ (coefficient_of (now ∷ []) j +ℚ coefficient_of behind j)
    new_split j =
        ap (λ es. coefficient_of es j) joined ∙ coefficient-append (done ++ front) (entry_unless_zero now ++ behind) j
        ∙ ap (λ t. coefficient_of (done ++ front) j +ℚ t) (coefficient-append (entry_unless_zero now) behind j ∙ ap (λ t. t +ℚ coefficient_of behind j) (unless_coefficient now j))

    at_entry : coefficient_of (((done ++ front) ++ entry_unless_zero now) ++ behind) entry.column ≡ coefficient_of (done ++ (front ++ high)) entry.column +ℚ factor *ℚ coefficient_of (entry ∷ []) entry.column
    at_entry =
        new_split entry.column
        ∙ ap₂ (λ t u. t +ℚ u) (beyond entry.column (done ++ front) entry.column all_low (omega arith)) (ap₂ (λ t u. t +ℚ u) (alone_here now ∙ number_is) (before (entry.column + 1) behind entry.column behind_ascending (omega arith)))
        ∙ ordered factor entry.coefficient own
        ∙ ap₂ (λ t u. t +ℚ factor *ℚ u) own_before (sym (alone_here entry))
      where
        ordered : (f a b : Rational) → zero_ℚ +ℚ ((f *ℚ a +ℚ b) +ℚ zero_ℚ) ≡ b +ℚ f *ℚ a
        ordered f a b = Q.zero-add _ ∙ Q.add-zero _ ∙ Q.add_comm _ _

    elsewhere : (j : ℕ) → j ≢ entry.column → coefficient_of (((done ++ front) ++ entry_unless_zero now) ++ behind) j ≡ coefficient_of (done ++ (front ++ high)) j +ℚ factor *ℚ coefficient_of (entry ∷ []) j
    elsewhere j differ =
        new_split j
        ∙ ap (λ t. coefficient_of (done ++ front) j +ℚ t) (ap₂ (λ t u. t +ℚ u) (alone_other now j (λ w. differ (sym w))) (others j differ) ∙ Q.zero-add _)
        ∙ sym (split j)
        ∙ sym (ap (λ t. coefficient_of (done ++ (front ++ high)) j +ℚ factor *ℚ t) (alone_other entry j (λ w. differ (sym w))) ∙ ap (λ t. coefficient_of (done ++ (front ++ high)) j +ℚ t) (Q.mul-zero factor) ∙ Q.add-zero _)

    pub one_added : IsAdded (done ++ (front ++ high)) factor entry ((done ++ front) ++ entry_unless_zero now) behind
    one_added = record {
      ascending = subst (λ (es : List Entry). IsAscending 0 es) (sym joined)
          (ascending_joined 0 entry.column (done ++ front) (entry_unless_zero now ++ behind) (omega arith) (ascending_left 0 (done ++ front) high (subst (λ (es : List Entry). IsAscending 0 es) together ascending)) all_low (unless_ascending now behind behind_ascending));
      done_below = below_joined (entry.column + 1) (done ++ front) (entry_unless_zero now) (below_more entry.column (entry.column + 1) (done ++ front) (omega arith) all_low) (unless_below (entry.column + 1) now (omega arith));
      below = λ n b.
          let old = subst (λ (es : List Entry). AllBelow n es) together b.1 in
          below_joined n ((done ++ front) ++ entry_unless_zero now) behind (below_joined n (done ++ front) (entry_unless_zero now) (below_left n (done ++ front) high old) (unless_below n now b.0)) (behind_below n (below_right n (done ++ front) high old));
      numbers = λ j. elim (ℕ_discrete j entry.column) [
        | yes same ↦ subst (λ (k : ℕ). coefficient_of (((done ++ front) ++ entry_unless_zero now) ++ behind) k ≡ coefficient_of (done ++ (front ++ high)) k +ℚ factor *ℚ coefficient_of (entry ∷ []) k) (sym same) at_entry
        | no differ ↦ elsewhere j differ
      ];
    }

-- as the code cuts the rest
added : (done rest front high behind made : List Entry) (factor number own : Rational) (entry : Entry) → front ++ high ≡ rest
    → IsAscending 0 (done ++ rest) → AllBelow entry.column done → AllBelow entry.column front → own ≡ coefficient_of high entry.column → number ≡ factor *ℚ entry.coefficient +ℚ own
    → IsAscending (entry.column + 1) behind → ((j : ℕ) → j ≢ entry.column → coefficient_of behind j ≡ coefficient_of high j) → ((n : ℕ) → AllBelow n high → AllBelow n behind)
    → made ≡ (done ++ front) ++ entry_unless_zero (record { column = entry.column; coefficient = number }) → IsAdded (done ++ rest) factor entry made behind
added done rest front high behind made factor number own entry parts ascending done_low front_low own_is number_is behind_ascending others behind_below made_is =
    let P : List Entry → List Entry → Type 0 = λ old new. IsAdded old factor entry new behind in
    subst (λ (r : List Entry). P (done ++ r) made) parts
    (subst (P (done ++ (front ++ high))) (sym made_is)
    (one_added done front high behind factor number own entry (subst (λ (r : List Entry). IsAscending 0 (done ++ r)) (sym parts) ascending) done_low front_low own_is number_is behind_ascending others behind_below))

-- x is the entry, as the code reads it
pub added_read : (done rest front high behind made : List Entry) (factor number own : Rational) (x entry : Entry) → x ≡ entry → front ++ high ≡ rest
    → IsAscending 0 (done ++ rest) → AllBelow entry.column done → AllBelow x.column front → own ≡ coefficient_of high x.column → number ≡ factor *ℚ x.coefficient +ℚ own
    → IsAscending (x.column + 1) behind → ((j : ℕ) → j ≢ x.column → coefficient_of behind j ≡ coefficient_of high j) → ((n : ℕ) → AllBelow n high → AllBelow n behind)
    → made ≡ (done ++ front) ++ entry_unless_zero (record { column = x.column; coefficient = number }) → IsAdded (done ++ rest) factor entry made behind
added_read done rest front high behind made factor number own x entry is parts ascending done_low front_low own_is number_is behind_ascending others behind_below made_is =
    subst (λ (y : Entry). IsAdded (done ++ rest) factor y made behind) is
    (added done rest front high behind made factor number own x parts ascending (subst (λ (y : Entry). AllBelow y.column done) (sym is) done_low) front_low own_is number_is behind_ascending others behind_below made_is)

added_fault : (done rest front high : List Entry) (factor own : Rational) (entry : Entry) (e : NoFit) → front ++ high ≡ rest
    → IsAscending 0 (done ++ rest) → AllBelow entry.column done → AllBelow entry.column front → own ≡ coefficient_of high entry.column
    → IsProductOrSum factor entry.coefficient own e → IsProductOrSum factor entry.coefficient (coefficient_of (done ++ rest) entry.column) e
added_fault done rest front high factor own entry e parts ascending done_low front_low own_is fault =
    subst (λ (r : List Entry). IsProductOrSum factor entry.coefficient (coefficient_of (done ++ r) entry.column) e) parts
    (subst (λ (x : Rational). IsProductOrSum factor entry.coefficient x e)
    (own_before done front high high factor zero_ℚ own entry (subst (λ (r : List Entry). IsAscending 0 (done ++ r)) (sym parts) ascending) done_low front_low own_is) fault)

pub added_fault_read : (done rest front high : List Entry) (factor own : Rational) (x entry : Entry) (e : NoFit) → x ≡ entry → front ++ high ≡ rest
    → IsAscending 0 (done ++ rest) → AllBelow entry.column done → AllBelow x.column front → own ≡ coefficient_of high x.column
    → IsProductOrSum factor x.coefficient own e → IsProductOrSum factor entry.coefficient (coefficient_of (done ++ rest) entry.column) e
added_fault_read done rest front high factor own x entry e is parts ascending done_low front_low own_is fault =
    subst (λ (y : Entry). IsProductOrSum factor y.coefficient (coefficient_of (done ++ rest) y.column) e) is
    (added_fault done rest front high factor own x e parts ascending (subst (λ (y : Entry). AllBelow y.column done) (sym is) done_low) front_low own_is fault)

-- ---- all of them

-- `done` and `rest` are `old` plus `factor` times the first i entries of `more`
pub record IsPartlyMerged (old : List Entry) (factor : Rational) (more : List Entry) (i : ℕ) (done rest : List Entry) (least : ℕ) : Type 0 where
  pub ascending : IsAscending 0 (done ++ rest)
  pub done_below : AllBelow least done
  pub taken_below : AllBelow least (take i more)
  pub left : IsAscending least (drop i more)
  pub below : (n : ℕ) → AllBelow n old → AllBelow n more → AllBelow n (done ++ rest)
  pub numbers : (j : ℕ) → coefficient_of (done ++ rest) j ≡ coefficient_of old j +ℚ factor *ℚ coefficient_of (take i more) j

abbrev pub IsUnderWay : List Entry → Rational → List Entry → ℕ → List Entry → List Entry → Type 0
IsUnderWay old factor more i done rest = (least : ℕ) × IsPartlyMerged old factor more i done rest least

pub merge_start : (old more done : List Entry) (factor : Rational) → done ≡ [] → IsAscending 0 old → IsAscending 0 more → IsUnderWay old factor more 0 done old
merge_start old more done factor empty h k = subst (λ (es : List Entry). IsUnderWay old factor more 0 es old) (sym empty) (
  0,
  record {
    ascending = h;
    done_below = tt;
    taken_below = tt;
    left = k;
    below = λ n b c. b;
    numbers = λ j. sym (ap (λ t. coefficient_of old j +ℚ t) (Q.mul-zero factor) ∙ Q.add-zero _);
  },
)

-- what the next entry asks for
pub merge_asks : (old : List Entry) (factor : Rational) (more : List Entry) (i : ℕ) (done rest : List Entry) (e : Entry) → i < length more → e ≡ get_or more i e → IsUnderWay old factor more i done rest
    → IsAscending 0 (done ++ rest) × AllBelow e.column done
merge_asks old factor more i done rest e h is (least, p) =
    let next : IsAscending least (e ∷ drop (i + 1) more) = subst (λ (es : List Entry). IsAscending least es) (drop_more more i e h ∙ ap (λ x. x ∷ drop (i + 1) more) (sym is)) p.left in
    (p.ascending, below_more least e.column done next.0 p.done_below)

pub merge_more : (old : List Entry) (factor : Rational) (more : List Entry) (i : ℕ) (done rest made behind : List Entry) (e : Entry) → i < length more → e ≡ get_or more i e → IsUnderWay old factor more i done rest
    → IsAdded (done ++ rest) factor e made behind → IsUnderWay old factor more (i + 1) made behind
merge_more old factor more i done rest made behind e h is (least, p) one = (
  e.column + 1,
  record {
    ascending = one.ascending;
    done_below = one.done_below;
    taken_below = subst (λ (es : List Entry). AllBelow (e.column + 1) es) (sym taken)
        (below_joined (e.column + 1) (take i more) (e ∷ []) (below_more least (e.column + 1) (take i more) (let low = next.0 in omega arith) p.taken_below) (omega arith, tt));
    left = next.1;
    below = λ n b c. one.below n (subst (λ (x : Entry). x.column < n) (sym is) (below_at n more i e c h), p.below n b c);
    numbers = λ j.
        one.numbers j ∙ ap (λ t. t +ℚ factor *ℚ coefficient_of (e ∷ []) j) (p.numbers j)
        ∙ Q.add_assoc _ _ _ ∙ ap (λ t. coefficient_of old j +ℚ t) (sym (Q.mul_add factor (coefficient_of (take i more) j) (coefficient_of (e ∷ []) j)))
        ∙ ap (λ t. coefficient_of old j +ℚ factor *ℚ t) (sym (coefficient-append (take i more) (e ∷ []) j) ∙ ap (λ es. coefficient_of es j) (sym taken));
  },
)
  where
    next : IsAscending least (e ∷ drop (i + 1) more)
    next = subst (λ (es : List Entry). IsAscending least es) (drop_more more i e h ∙ ap (λ x. x ∷ drop (i + 1) more) (sym is)) p.left

    taken : take (i + 1) more ≡ take i more ++ e ∷ []
    taken = take_more more i e h ∙ ap (λ x. take i more ++ x ∷ []) (sym is)

pub merge_end : (old : List Entry) (factor : Rational) (more : List Entry) (i : ℕ) (done rest made : List Entry) → length more ≤ i → IsUnderWay old factor more i done rest → made ≡ done ++ rest → IsMerged old factor more made
merge_end old factor more i done rest made h (least, p) is = subst (λ (es : List Entry). IsMerged old factor more es) (sym is) (record {
  ascending = p.ascending;
  below = p.below;
  numbers = λ j. p.numbers j ∙ ap (λ es. coefficient_of old j +ℚ factor *ℚ coefficient_of es j) (take_all i more h);
})

pub merge_fault : (old : List Entry) (factor : Rational) (more : List Entry) (i : ℕ) (done rest : List Entry) (e : Entry) (f : Fault) → i < length more → e ≡ get_or more i e → IsUnderWay old factor more i done rest
    → IfNoFit (IsProductOrSum factor e.coefficient (coefficient_of (done ++ rest) e.column)) f → IfNoFit (IsMergeFault old factor more) f
merge_fault old factor more i done rest e no_memory h is under fault = tt
merge_fault old factor more i done rest e (no_fit g) h is (least, p) fault = record {
  index = i;
  entry = e;
  is_entry = slice_get-get_or more i e h ∙ ap Some (sym is);
  fault = subst (λ (x : Rational). IsProductOrSum factor e.coefficient x g) same fault;
}
  where
    next : IsAscending least (e ∷ drop (i + 1) more)
    next = subst (λ (es : List Entry). IsAscending least es) (drop_more more i e h ∙ ap (λ x. x ∷ drop (i + 1) more) (sym is)) p.left

    same : coefficient_of (done ++ rest) e.column ≡ coefficient_of old e.column
    same =
        p.numbers e.column
        ∙ ap (λ t. coefficient_of old e.column +ℚ factor *ℚ t) (beyond least (take i more) e.column p.taken_below next.0)
        ∙ ap (λ t. coefficient_of old e.column +ℚ t) (Q.mul-zero factor) ∙ Q.add-zero _
