-- The names of columns differ.
use Rattle.std.proofs.Common.{◌≡◌, ◌∙◌, ◌++◌, ℕ, Bool, true, false, cond, List, [], ◌∷◌, map, refl, sym, ap, subst, slice_get, Some, drop, zero, suc, ◌+◌, arith}
use Rattle.std.specs.List.{AllByRecursion, IsDistinct}
use Rattle.instance.specs.WellFormed.{are_distinct_columns}
use Rattle.gmpl_value.specs.declared.symbol.Symbol.{Symbol}
use Rattle.gmpl_value.specs.SymbolEquality.{tuple_eq}
use Rattle.gmpl_value.proofs.Distinct.{tuple_laws}
use Rattle.gmpl_member_names.specs.Narrow.{AreNarrow}
use Rattle.gmpl_rows.specs.declared.declared.Declared.{Declared}
use Rattle.gmpl_rows.specs.MemberColumn.{MemberColumn, is_used}
use Rattle.gmpl_rows.specs.Demanded.{Demanded}
use Rattle.gmpl_rows.specs.Problem.{LaidColumn, laid_member, laid_in, laid_out, column_of}
use Rattle.gmpl_rows.specs.Premises.{AreDifferent, AreObjects, IsName, declared_name}
use Rattle.gmpl_rows.specs.Named.{AreUsedNarrow, AreApart}
use Rattle.gmpl_rows.proofs.Naming.{Member, full_name, IsGood, Apart, column_name, distinct_columns, names_differ}

-- the members of one variable that are columns
abbrev pub used : List ℕ → List (List Symbol) → List MemberColumn → List Member
used name (m ∷ ms) (k ∷ ks) = cond (is_used k) ((name, m) ∷ used name ms ks) (used name ms ks)
used name _ _ = []

abbrev pub all_used : List Declared → List Demanded → List Member
all_used (v ∷ vs) (d ∷ ds) = used v.name d.members d.columns ++ all_used vs ds
all_used _ _ = []

-- ---- their names

names_of : List LaidColumn → List (List ℕ)
names_of ls = map column_name (map column_of ls)

names_used : (v : Declared) (ms : List (List Symbol)) (ks : List MemberColumn) → names_of (laid_in v ms ks) ≡ map full_name (used v.name ms ks)
unfolding names_of
names_used v [] ks = refl
names_used v (m ∷ ms) [] = refl
names_used v (m ∷ ms) (k ∷ ks) = by (is_used k) (names_used v ms ks)
  where
    by : (t : Bool) → map column_name (map column_of (laid_in v ms ks)) ≡ map full_name (used v.name ms ks) → map column_name (map column_of (cond t (laid_member v m k ∷ laid_in v ms ks) (laid_in v ms ks))) ≡ map full_name (cond t ((v.name, m) ∷ used v.name ms ks) (used v.name ms ks))
    by true rest = ap (λ ns. full_name (v.name, m) ∷ ns) rest
    by false rest = rest

map_append : {X Y : Type 0} (f : X → Y) (xs ys : List X) → map f (xs ++ ys) ≡ map f xs ++ map f ys
map_append f [] ys = refl
map_append f (x ∷ xs) ys = ap (λ l. f x ∷ l) (map_append f xs ys)

names_all : (vs : List Declared) (ds : List Demanded) → names_of (laid_out vs ds) ≡ map full_name (all_used vs ds)
unfolding names_of
names_all [] ds = refl
names_all (v ∷ vs) [] = refl
names_all (v ∷ vs) (d ∷ ds) =
    ap (map column_name) (map_append column_of (laid_in v d.members d.columns) (laid_out vs ds))
    ∙ map_append column_name (map column_of (laid_in v d.members d.columns)) (map column_of (laid_out vs ds))
    ∙ ap (λ ns. ns ++ map column_name (map column_of (laid_out vs ds))) (names_used v d.members d.columns)
    ∙ ap (λ ns. map full_name (used v.name d.members d.columns) ++ ns) (names_all vs ds)
    ∙ sym (map_append full_name (used v.name d.members d.columns) (all_used vs ds))

-- ---- they are good

all_append : {X : Type 0} (P : X → Type 0) (xs ys : List X) → AllByRecursion P xs → AllByRecursion P ys → AllByRecursion P (xs ++ ys)
all_append P [] ys a b = b
all_append P (x ∷ xs) ys a b = (a.0, all_append P xs ys a.1 b)

good_used : (name : List ℕ) (ms : List (List Symbol)) (ks : List MemberColumn) → IsName name → AreUsedNarrow ms ks → AllByRecursion IsGood (used name ms ks)
good_used name [] ks n narrow = tt
good_used name (m ∷ ms) [] n narrow = tt
good_used name (m ∷ ms) (k ∷ ks) n narrow = by (is_used k) narrow.0 (good_used name ms ks n narrow.1)
  where
    by : (t : Bool) → cond t (AreNarrow m) (Unit {0}) → AllByRecursion IsGood (used name ms ks) → AllByRecursion IsGood (cond t ((name, m) ∷ used name ms ks) (used name ms ks))
    by true h rest = ((n, h), rest)
    by false h rest = rest

good_all : (vs : List Declared) (ds : List Demanded) → AllByRecursion IsName (map declared_name vs) → AreApart vs ds → AllByRecursion IsGood (all_used vs ds)
good_all [] ds n apart = tt
good_all (v ∷ vs) [] n apart = tt
good_all (v ∷ vs) (d ∷ ds) n apart = all_append IsGood (used v.name d.members d.columns) (all_used vs ds) (good_used v.name d.members d.columns n.0 apart.0.0) (good_all vs ds n.1 apart.1)

-- ---- they differ

other_members : (m : List Symbol) (ms : List (List Symbol)) → AllByRecursion (λ s. tuple_eq m s ≡ false) ms → AllByRecursion (λ s. m ≡ s → ⊥) ms
other_members m [] h = tt
other_members m (s ∷ ms) h = ((λ e. different (subst (λ t. tuple_eq m t ≡ false) (sym e) h.0)), other_members m ms h.1)
  where
    different : tuple_eq m m ≡ false → ⊥
    different f = let t : tuple_eq m m ≡ true = tuple_laws.refl m in cc

apart_used : (name : List ℕ) (m : List Symbol) (ms : List (List Symbol)) (ks : List MemberColumn) → AllByRecursion (λ s. m ≡ s → ⊥) ms → AllByRecursion (Apart (name, m)) (used name ms ks)
apart_used name m [] ks h = tt
apart_used name m (s ∷ ms) [] h = tt
apart_used name m (s ∷ ms) (k ∷ ks) h = by (is_used k) (apart_used name m ms ks h.1)
  where
    by : (t : Bool) → AllByRecursion (Apart (name, m)) (used name ms ks) → AllByRecursion (Apart (name, m)) (cond t ((name, s) ∷ used name ms ks) (used name ms ks))
    by true rest = ((λ e. h.0 (ap (λ (p : Member). p.1) e)), rest)
    by false rest = rest

differ_used : (name : List ℕ) (ms : List (List Symbol)) (ks : List MemberColumn) → IsDistinct tuple_eq ms → AreDifferent (used name ms ks)
unfolding IsDistinct
differ_used name [] ks d = tt
differ_used name (m ∷ ms) [] d = tt
differ_used name (m ∷ ms) (k ∷ ks) d = by (is_used k) (apart_used name m ms ks (other_members m ms d.0)) (differ_used name ms ks d.1)
  where
    by : (t : Bool) → AllByRecursion (Apart (name, m)) (used name ms ks) → AreDifferent (used name ms ks) → AreDifferent (cond t ((name, m) ∷ used name ms ks) (used name ms ks))
    by true first rest = (first, rest)
    by false first rest = rest

-- a member of another object
other_used : (m : Member) (name : List ℕ) (ms : List (List Symbol)) (ks : List MemberColumn) → (m.0 ≡ name → ⊥) → AllByRecursion (Apart m) (used name ms ks)
other_used m name [] ks h = tt
other_used m name (s ∷ ms) [] h = tt
other_used m name (s ∷ ms) (k ∷ ks) h = by (is_used k) (other_used m name ms ks h)
  where
    by : (t : Bool) → AllByRecursion (Apart m) (used name ms ks) → AllByRecursion (Apart m) (cond t ((name, s) ∷ used name ms ks) (used name ms ks))
    by true rest = ((λ e. h (ap (λ (p : Member). p.0) e)), rest)
    by false rest = rest

other_all : (m : Member) (vs : List Declared) (ds : List Demanded) → AllByRecursion (λ n. m.0 ≡ n → ⊥) (map declared_name vs) → AllByRecursion (Apart m) (all_used vs ds)
other_all m [] ds h = tt
other_all m (v ∷ vs) [] h = tt
other_all m (v ∷ vs) (d ∷ ds) h = all_append (Apart m) (used v.name d.members d.columns) (all_used vs ds) (other_used m v.name d.members d.columns h.0) (other_all m vs ds h.1)

front_differ : (xs ys : List Member) → AreDifferent xs → AreDifferent ys → AllByRecursion (λ x. AllByRecursion (Apart x) ys) xs → AreDifferent (xs ++ ys)
front_differ [] ys a b c = b
front_differ (x ∷ xs) ys a b c = (all_append (Apart x) xs ys a.0 c.0, front_differ xs ys a.1 b c.1)

own_all : (name : List ℕ) (ms : List (List Symbol)) (ks : List MemberColumn) (ys : List Member) → ((s : List Symbol) → AllByRecursion (Apart (name, s)) ys) → AllByRecursion (λ x. AllByRecursion (Apart x) ys) (used name ms ks)
own_all name [] ks ys h = tt
own_all name (m ∷ ms) [] ys h = tt
own_all name (m ∷ ms) (k ∷ ks) ys h = by (is_used k) (own_all name ms ks ys h)
  where
    by : (t : Bool) → AllByRecursion (λ x. AllByRecursion (Apart x) ys) (used name ms ks) → AllByRecursion (λ x. AllByRecursion (Apart x) ys) (cond t ((name, m) ∷ used name ms ks) (used name ms ks))
    by true rest = (h m, rest)
    by false rest = rest

differ_all : (vs : List Declared) (ds : List Demanded) → AreDifferent (map declared_name vs) → AreApart vs ds → AreDifferent (all_used vs ds)
differ_all [] ds n apart = tt
differ_all (v ∷ vs) [] n apart = tt
differ_all (v ∷ vs) (d ∷ ds) n apart =
    front_differ (used v.name d.members d.columns) (all_used vs ds) (differ_used v.name d.members d.columns apart.0.1) (differ_all vs ds n.1 apart.1)
    (own_all v.name d.members d.columns (all_used vs ds) (λ s. other_all (v.name, s) vs ds n.0))

pub new_columns : (vs : List Declared) (ds : List Demanded) → AreObjects vs → AreApart vs ds → are_distinct_columns [] (map column_of (laid_out vs ds)) ≡ true
unfolding names_of
new_columns vs ds objects apart =
    let differ = names_differ (all_used vs ds) (good_all vs ds objects.names apart) (differ_all vs ds objects.differ apart) in
    distinct_columns (map column_of (laid_out vs ds)) (subst (λ (ns : List (List ℕ)). AreDifferent ns) (sym (names_all vs ds)) differ)

-- ---- what is known of a variable's members, from a place on

pub narrow-more : (ms : List (List Symbol)) (ks : List MemberColumn) (j : ℕ) (m : List Symbol) (k : MemberColumn) → slice_get ms j ≡ Some m → slice_get ks j ≡ Some k → cond (is_used k) (AreNarrow m) (Unit {0}) → AreUsedNarrow (drop (j + 1) ms) (drop (j + 1) ks) → AreUsedNarrow (drop j ms) (drop j ks)
narrow-more [] ks j m k a b n rest = absurd cc
narrow-more (x ∷ ms) [] j m k a b n rest = absurd cc
narrow-more (x ∷ ms) (y ∷ ks) zero m k a b n rest =
    let e : m ≡ x = cc in
    let f : k ≡ y = cc in
    (subst (λ (z : MemberColumn). cond (is_used z) (AreNarrow x) (Unit {0})) f (subst (λ (z : List Symbol). cond (is_used k) (AreNarrow z) (Unit {0})) e n), rest)
narrow-more (x ∷ ms) (y ∷ ks) (suc j) m k a b n rest =
    let e : suc j + 1 ≡ suc (j + 1) = omega arith in
    narrow-more ms ks j m k a b n (subst (λ i. AreUsedNarrow (drop i (x ∷ ms)) (drop i (y ∷ ks))) e rest)
