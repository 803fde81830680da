-- What is kept stays right.
use Rattle.std.proofs.Common.{◌≡◌, ℕ, Bool, true, false, Option, Some, None, List, [], ◌∷◌, refl, sym, ap, subst, cond, IfSome, ◌&&◌, nat_eq, option_copied, Result, Ok, Err, OnOk, OnErr, Bor}
use Rattle.std.specs.Map.{lookup}
use Rattle.std.specs.List.{AllByRecursion}
use Rattle.std.proofs.lemmas.Bool.{and_parts, eqb-true}
use Rattle.rational.proofs.Laws.{same_true}
use Rattle.std.specs.Cmp.Lexicographic.{same_text}
use Rattle.indexmap.specs.IndexMap.{insert_entry}
use Rattle.gmpl_value.specs.declared.symbol.Symbol.{Symbol}
use Rattle.gmpl_value.specs.declared.symbol.Symbol.TheVariants.{Number, Word}
use Rattle.gmpl_value.specs.SymbolEquality.{symbol_eq, tuple_eq}
use Rattle.gmpl_data.specs.declared.tables.LoadedModel.{LoadedModel}
use Rattle.gmpl_functions.specs.declared.variable.Variable.{Variable}
use Rattle.gmpl_functions.specs.Linear.{variable_eq}
use Rattle.gmpl_meaning.specs.declared.bounds.Bounds.{Bounds}
use Rattle.gmpl_meaning.specs.declared.asked.Asked.{Asked}
use Rattle.gmpl_meaning.specs.declared.asked.Asked.TheVariants.{Member, Range, Entry, Restriction}
use Rattle.gmpl_meaning.specs.declared.value.KeptValue.{KeptValue}
use Rattle.gmpl_meaning.specs.declared.value.Alone.{Alone}
use Rattle.gmpl_meaning.specs.Right.{Table, asked_eq, with_value, with_alone, with_bounds, IsRight, IsAlone, HasBounds, AreRight}

-- ---- what is equal is the same

same_symbol : (s t : Symbol) → symbol_eq s t ≡ true → s ≡ t
same_symbol (Number a) (Number b) h = ap Number (same_true a b h)
same_symbol (Number a) (Word t) h = absurd cc
same_symbol (Word s) (Number b) h = absurd cc
same_symbol (Word s) (Word t) h = ap Word (same_text s t (sym h))

same_tuple : (s t : List Symbol) → tuple_eq s t ≡ true → s ≡ t
same_tuple [] [] h = refl
same_tuple [] (y ∷ t) h = absurd cc
same_tuple (x ∷ s) [] h = absurd cc
same_tuple (x ∷ s) (y ∷ t) h =
    let parts = and_parts (symbol_eq x y) (tuple_eq s t) h in
    let first = same_symbol x y parts.0 in
    let rest = same_tuple s t parts.1 in
    λ j. first j ∷ rest j

same_places : (p n h q m k : ℕ) → (s t : List Symbol) → (nat_eq p q && (nat_eq n m && (nat_eq h k && tuple_eq s t))) ≡ true → (p ≡ q) × ((n ≡ m) × ((h ≡ k) × (s ≡ t)))
same_places p n h q m k s t e =
    let first = and_parts (nat_eq p q) (nat_eq n m && (nat_eq h k && tuple_eq s t)) e in
    let others = and_parts (nat_eq n m) (nat_eq h k && tuple_eq s t) first.1 in
    let last = and_parts (nat_eq h k) (tuple_eq s t) others.1 in
    (eqb-true p q first.0, (eqb-true n m others.0, (eqb-true h k last.0, same_tuple s t last.1)))

same_asked : (a b : Asked) → asked_eq a b ≡ true → a ≡ b
same_asked (Member p h s) (Member q k t) e =
    let first = and_parts (nat_eq p q) (nat_eq h k && tuple_eq s t) e in
    let others = and_parts (nat_eq h k) (tuple_eq s t) first.1 in
    let place = eqb-true p q first.0 in
    let height = eqb-true h k others.0 in
    let subscripts = same_tuple s t others.1 in
    λ j. Member (place j) (height j) (subscripts j)
same_asked (Member p h s) (Range x y z) e = absurd cc
same_asked (Member p h s) (Entry q n k t) e = absurd cc
same_asked (Member p h s) (Restriction q n k t) e = absurd cc
same_asked (Range a b c) (Member q k t) e = absurd cc
same_asked (Range a b c) (Entry q n k t) e = absurd cc
same_asked (Range a b c) (Restriction q n k t) e = absurd cc
same_asked (Entry p n h s) (Member q k t) e = absurd cc
same_asked (Entry p n h s) (Range x y z) e = absurd cc
same_asked (Entry p n h s) (Restriction q m k t) e = absurd cc
same_asked (Entry p n h s) (Entry q m k t) e =
    let parts = same_places p n h q m k s t e in
    λ j. Entry (parts.0 j) (parts.1.0 j) (parts.1.1.0 j) (parts.1.1.1 j)
same_asked (Restriction p n h s) (Member q k t) e = absurd cc
same_asked (Restriction p n h s) (Range x y z) e = absurd cc
same_asked (Restriction p n h s) (Entry q m k t) e = absurd cc
same_asked (Restriction p n h s) (Restriction q m k t) e =
    let parts = same_places p n h q m k s t e in
    λ j. Restriction (parts.0 j) (parts.1.0 j) (parts.1.1.0 j) (parts.1.1.1 j)
same_asked (Range a b c) (Range x y z) e =
    let first = and_parts (symbol_eq (Number a) (Number x)) (symbol_eq (Number b) (Number y) && symbol_eq (Number c) (Number z)) e in
    let others = and_parts (symbol_eq (Number b) (Number y)) (symbol_eq (Number c) (Number z)) first.1 in
    let from = same_true a x first.0 in
    let to = same_true b y others.0 in
    let by = same_true c z others.1 in
    λ j. Range (from j) (to j) (by j)

same_variable : (a b : Variable) → variable_eq a b ≡ true → a ≡ b
same_variable a b e =
    let parts = and_parts (nat_eq a.statement b.statement) (tuple_eq a.subscripts b.subscripts) e in
    let statement = eqb-true a.statement b.statement parts.0 in
    let subscripts = same_tuple a.subscripts b.subscripts parts.1 in
    λ j. record { statement = statement j; subscripts = subscripts j }

-- ---- an entry more, and one that is found, in a table by what is equal

module _ {K V : Type 0} (eq : K → K → Bool) (P : K → V → Type 0) (same : (a b : K) → eq a b ≡ true → a ≡ b) (k : K) where
  abbrev All : List (K × V) → Type 0
  All = AllByRecursion (λ e. P e.0 e.1)

  one_kept : (v : V) (e : K × V) (es rest : List (K × V)) → All (e ∷ es) → P k v → All rest → (t : Bool) → eq k e.0 ≡ t → All (cond t ((e.0, v) ∷ es) (e ∷ rest))
  one_kept v e es rest all right others true equal = (subst (λ a. P a v) (same k e.0 equal) right, all.1)
  one_kept v e es rest all right others false equal = (all.0, others)

  pub kept_right : (v : V) (es : List (K × V)) → All es → P k v → All (insert_entry eq es k v)
  kept_right v [] all right = (right, tt)
  kept_right v (e ∷ es) all right = one_kept v e es (insert_entry eq es k v) all right (kept_right v es all.1 right) (eq k e.0) refl

  one_found : (e : K × V) (rest : Option V) → P e.0 e.1 → IfSome rest (P k) → (t : Bool) → eq k e.0 ≡ t → IfSome (cond t (Some e.1) rest) (P k)
  one_found e rest right others true equal = subst (λ a. P a e.1) (sym (same k e.0 equal)) right
  one_found e rest right others false equal = others

  pub found_right : (es : List (K × V)) → All es → IfSome (lookup (eq k) es) (P k)
  found_right [] all = tt
  found_right (e ∷ es) all = one_found e (lookup (eq k) es) all.0 (found_right es all.1) (eq k e.0) refl

  -- the same of what a look-up lends
  pub seen_right : (found : Option (Bor V)) (es : List (K × V)) → option_copied found ≡ lookup (eq k) es → All es → IfSome found (λ v. P k v.now)
  seen_right None es is all = tt
  seen_right (Some v) es is all = subst (λ o. IfSome o (P k)) (sym is) (found_right es all)

-- ---- the same in what is kept of a model; memory may be wanting

-- what an insertion leaves, whether it was made or not
either_kept : {E : Type 0} (model : LoadedModel) (old new with_entry : Table) (result : Result (Unit {0}) E) → OnOk result (new ≡ with_entry) → OnErr result (new ≡ old) → AreRight model old → AreRight model with_entry → AreRight model new
either_kept model old new with_entry (Ok done) ok err before after = subst (AreRight model) (sym ok) after
either_kept model old new with_entry (Err fault) ok err before after = subst (AreRight model) (sym err) before

module _ (model : LoadedModel) where
  pub value_found : (k : Asked) (found : Option (Bor KeptValue)) (t : Table) → option_copied found ≡ lookup (asked_eq k) t.values → AreRight model t → IfSome found (λ v. IsRight model (k, v.now))
  value_found k found t is all = seen_right asked_eq (λ a v. IsRight model (a, v)) same_asked k found t.values is all.values_are

  pub alone_found : (place : ℕ) (found : Option (Bor Alone)) (t : Table) → option_copied found ≡ lookup (nat_eq place) t.alone → AreRight model t → IfSome found (λ a. IsAlone model (place, a.now))
  alone_found place found t is all = seen_right nat_eq (λ p a. IsAlone model (p, a)) eqb-true place found t.alone is all.alone_are

  pub bounds_found : (k : Variable) (found : Option (Bor Bounds)) (t : Table) → option_copied found ≡ lookup (variable_eq k) t.bounds → AreRight model t → IfSome found (λ b. HasBounds model (k, b.now))
  bounds_found k found t is all = seen_right variable_eq (λ a b. HasBounds model (a, b)) same_variable k found t.bounds is all.bounds_are

  pub value_kept : {E : Type 0} (k : Asked) (v : KeptValue) (old new : Table) (result : Result (Unit {0}) E) → OnOk result (new ≡ with_value old k v) → OnErr result (new ≡ old) → AreRight model old → IsRight model (k, v) → AreRight model new
  value_kept k v old new result ok err all right =
      either_kept model old new (with_value old k v) result ok err all
      (record { values_are = kept_right asked_eq (λ a w. IsRight model (a, w)) same_asked k v old.values all.values_are right; alone_are = all.alone_are; bounds_are = all.bounds_are })

  pub alone_kept : {E : Type 0} (place : ℕ) (alone : Alone) (old new : Table) (result : Result (Unit {0}) E) → OnOk result (new ≡ with_alone old place alone) → OnErr result (new ≡ old) → AreRight model old → IsAlone model (place, alone) → AreRight model new
  alone_kept place alone old new result ok err all right =
      either_kept model old new (with_alone old place alone) result ok err all
      (record { values_are = all.values_are; alone_are = kept_right nat_eq (λ p a. IsAlone model (p, a)) eqb-true place alone old.alone all.alone_are right; bounds_are = all.bounds_are })

  pub bounds_kept : {E : Type 0} (k : Variable) (b : Bounds) (old new : Table) (result : Result (Unit {0}) E) → OnOk result (new ≡ with_bounds old k b) → OnErr result (new ≡ old) → AreRight model old → HasBounds model (k, b) → AreRight model new
  bounds_kept k b old new result ok err all right =
      either_kept model old new (with_bounds old k b) result ok err all
      (record { values_are = all.values_are; alone_are = all.alone_are; bounds_are = kept_right variable_eq (λ a c. HasBounds model (a, c)) same_variable k b old.bounds all.bounds_are right })
