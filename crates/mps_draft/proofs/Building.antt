-- What is left to add to a problem, from what a draft keeps.
use Rattle.std.proofs.Common.{◌≡◌, ◌+◌, ◌≤◌, false, List, [], ◌∷◌, ◌++◌, length, map, ap, refl, subst, arith}
use Rattle.std.specs.List.{All}
use Rattle.std.proofs.lemmas.List.{length-map}
use Rattle.std.proofs.lemmas.List.Elements.{All-tail}
use Rattle.milp.specs.Problem.{Problem, Row}
use Rattle.instance.specs.WellFormed.{has_row, entry_count as entries_of_rows}
use Rattle.model_text.specs.Names.{AreNew}
use Rattle.model_text.proofs.Adding.{IsLeft, left-at-first, row-new, row-added}
use Rattle.mps_draft.specs.Consistent.{IsGiven}
use Rattle.mps_draft.specs.Declaration.{DeclaredRow, entry_count}
use Rattle.mps_draft.specs.Finished.{finished_row}

names-finished : (rows : List DeclaredRow) → map (λ (r : Row). r.name) (map finished_row rows) ≡ map (λ (r : DeclaredRow). r.name) rows
names-finished [] = refl
names-finished (r ∷ rs) = ap (λ names. r.name ∷ names) (names-finished rs)

entries-finished : (rows : List DeclaredRow) → entries_of_rows (map finished_row rows) ≡ entry_count rows
entries-finished [] = refl
entries-finished (r ∷ rs) = ap (λ n. length r.entries + n) (entries-finished rs)

-- the rows that are left, of columns that are there
abbrev pub AreLeft : Problem → List DeclaredRow → Problem → Type 0
AreLeft b rows whole = IsLeft b (map finished_row rows) whole × All (IsGiven (length b.columns)) rows

pub all-left : (b : Problem) (rows left : List DeclaredRow) → left ≡ rows → b.rows ≡ [] → AreNew (map (λ (r : DeclaredRow). r.name) rows) → length rows ≤ 1_000_000 → All (IsGiven (length b.columns)) rows → entry_count rows ≤ 20_000_000 → AreLeft b left (record b { rows = map finished_row rows })
all-left b rows left same none new few given entries =
    let one : IsLeft b (map finished_row rows) (record b { rows = map finished_row rows }) = left-at-first b (map finished_row rows) none (rw (names-finished rows) new) (omega (arith, length-map rows finished_row, few)) (omega (arith, entries-finished rows, entries)) in
    rw same (one, given)

pub next-new : (b whole : Problem) (row : DeclaredRow) (rows rest : List DeclaredRow) → rows ≡ row ∷ rest → AreLeft b rows whole → has_row row.name b.rows ≡ false
next-new b whole row rows rest split left =
    row-new b whole (finished_row row) (map finished_row rest) (subst (λ (rs : List DeclaredRow). IsLeft b (map finished_row rs) whole) split left.0)

pub next-added : (b more whole : Problem) (row : DeclaredRow) (rows rest : List DeclaredRow) → more ≡ record b { rows = b.rows ++ finished_row row ∷ [] } → rows ≡ row ∷ rest → AreLeft b rows whole → AreLeft more rest whole
next-added b more whole row rows rest is split left =
    let given : All (IsGiven (length b.columns)) rest = All-tail (IsGiven (length b.columns)) row rest (subst (All (IsGiven (length b.columns))) split left.1) in
    (row-added b more whole (finished_row row) (map finished_row rows) (map finished_row rest) is (ap (map finished_row) split) left.0, rw is given)
