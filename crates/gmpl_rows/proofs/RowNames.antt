-- The names of rows differ.
use Rattle.std.proofs.Common.{◌≡◌, ◌<◌, ℕ, zero, suc, ◌+◌, List, [], ◌∷◌, length, map, true, refl, sym, ap, subst, arith}
use Rattle.std.specs.List.{AllByRecursion}
use Rattle.instance.specs.WellFormed.{are_distinct_rows}
use Rattle.gmpl_rows.specs.declared.declared.Declared.{Declared}
use Rattle.gmpl_rows.specs.declared.draft.RowHead.{RowHead}
use Rattle.gmpl_rows.specs.Draft.{row_member}
use Rattle.gmpl_rows.specs.Problem.{LaidColumn, name_of, rows_from}
use Rattle.gmpl_rows.specs.Premises.{AreDifferent, AreDeclared, AreObjects, IsName, declared_name}
use Rattle.gmpl_rows.specs.Named.{AreRowsNarrow}
use Rattle.gmpl_rows.proofs.Naming.{Member, full_name, IsGood, Apart, row_name, distinct_rows, names_differ}

-- a row's object by its name, and its subscripts
abbrev pub member_of : List Declared → RowHead → Member
member_of vs h = (name_of vs h.statement, h.subscripts)

names_rows : (vs : List Declared) (ls : List LaidColumn) (i : ℕ) (hs : List RowHead) → map row_name (rows_from vs ls i hs) ≡ map full_name (map (member_of vs) hs)
names_rows vs ls i [] = refl
names_rows vs ls i (h ∷ hs) = ap (λ ns. full_name (member_of vs h) ∷ ns) (names_rows vs ls (i + 1) hs)

-- ---- names of statements

good_name : (vs : List Declared) (i : ℕ) → i < length vs → AllByRecursion IsName (map declared_name vs) → IsName (name_of vs i)
good_name [] i lt n = absurd (omega (arith, lt))
good_name (v ∷ vs) zero lt n = n.0
good_name (v ∷ vs) (suc i) lt n = good_name vs i (omega (arith, lt)) n.1

not_later : (name : List ℕ) (vs : List Declared) (i : ℕ) → i < length vs → AllByRecursion (λ n. name ≡ n → ⊥) (map declared_name vs) → name ≡ name_of vs i → ⊥
not_later name [] i lt n e = absurd (omega (arith, lt))
not_later name (v ∷ vs) zero lt n e = n.0 e
not_later name (v ∷ vs) (suc i) lt n e = not_later name vs i (omega (arith, lt)) n.1 e

same_statement : (vs : List Declared) (i j : ℕ) → i < length vs → j < length vs → AreDifferent (map declared_name vs) → name_of vs i ≡ name_of vs j → i ≡ j
same_statement [] i j a b d e = absurd (omega (arith, a))
same_statement (v ∷ vs) zero zero a b d e = refl
same_statement (v ∷ vs) zero (suc j) a b d e = absurd (not_later v.name vs j (omega (arith, b)) d.0 e)
same_statement (v ∷ vs) (suc i) zero a b d e = absurd (not_later v.name vs i (omega (arith, a)) d.0 (sym e))
same_statement (v ∷ vs) (suc i) (suc j) a b d e = ap (λ n. suc n) (same_statement vs i j (omega (arith, a)) (omega (arith, b)) d.1 e)

-- ---- rows

abbrev pub IsDeclared : List Declared → RowHead → Type 0
IsDeclared vs h = h.statement < length vs

good_rows : (vs : List Declared) (hs : List RowHead) → AllByRecursion IsName (map declared_name vs) → AllByRecursion (IsDeclared vs) hs → AreRowsNarrow hs → AllByRecursion IsGood (map (member_of vs) hs)
good_rows vs [] n d narrow = tt
good_rows vs (h ∷ hs) n d narrow = ((good_name vs h.statement d.0 n, narrow.0), good_rows vs hs n d.1 narrow.1)

other_rows : (vs : List Declared) (h : RowHead) (hs : List RowHead) → AreDifferent (map declared_name vs) → IsDeclared vs h → AllByRecursion (IsDeclared vs) hs → AllByRecursion (λ m. row_member h ≡ m → ⊥) (map row_member hs) → AllByRecursion (Apart (member_of vs h)) (map (member_of vs) hs)
other_rows vs h [] n d ds a = tt
other_rows vs h (g ∷ hs) n d ds a = (here, other_rows vs h hs n d ds.1 a.1)
  where
    here : member_of vs h ≡ member_of vs g → ⊥
    here e =
        let statement = same_statement vs h.statement g.statement d ds.0 n (ap (λ (m : Member). m.0) e) in
        let subscripts : h.subscripts ≡ g.subscripts = ap (λ (m : Member). m.1) e in
        a.0 (λ j. record { statement = statement j; subscripts = subscripts j })

differ_rows : (vs : List Declared) (hs : List RowHead) → AreDifferent (map declared_name vs) → AllByRecursion (IsDeclared vs) hs → AreDifferent (map row_member hs) → AreDifferent (map (member_of vs) hs)
differ_rows vs [] n d a = tt
differ_rows vs (h ∷ hs) n d a = (other_rows vs h hs n d.0 d.1 a.0, differ_rows vs hs n d.1 a.1)

pub new_rows : (vs : List Declared) (ls : List LaidColumn) (hs : List RowHead) → AreObjects vs → AreDeclared vs hs → AreDifferent (map row_member hs) → AreRowsNarrow hs → are_distinct_rows [] (rows_from vs ls 0 hs) ≡ true
new_rows vs ls hs objects declared differ narrow =
    let names = names_differ (map (member_of vs) hs) (good_rows vs hs objects.names declared narrow) (differ_rows vs hs objects.differ declared differ) in
    distinct_rows (rows_from vs ls 0 hs) (subst (λ (ns : List (List ℕ)). AreDifferent ns) (sym (names_rows vs ls 0 hs)) names)
