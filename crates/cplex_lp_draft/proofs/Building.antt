-- What is left to add to a problem, from what a draft keeps.
use Rattle.std.proofs.Common.{◌≡◌, ◌+◌, ◌≤◌, false, List, [], ◌∷◌, ◌++◌, length, map, ap, refl, subst, arith}
use Rattle.std.specs.List.{All}
use Rattle.std.proofs.lemmas.List.Elements.{All-tail}
use Rattle.milp.specs.Problem.{Problem, Row}
use Rattle.instance.specs.WellFormed.{has_row, entry_count as entries_of_rows}
use Rattle.model_text.specs.Names.{AreNew}
use Rattle.model_text.proofs.Adding.{IsLeft, left-at-first, row-new, row-added}
use Rattle.cplex_lp_draft.specs.Consistent.{HasForm}
use Rattle.cplex_lp_draft.specs.Rows.{entry_count}

entries-same : (rows : List Row) → entries_of_rows rows ≡ entry_count rows
entries-same [] = refl
entries-same (r ∷ rs) = ap (λ n. length r.entries + n) (entries-same rs)

-- the rows that are left, of columns that are there
abbrev pub AreLeft : Problem → List Row → Problem → Type 0
AreLeft b rows whole = IsLeft b rows whole × All (HasForm (length b.columns)) rows

pub all-left : (b : Problem) (rows left : List Row) → left ≡ rows → b.rows ≡ [] → AreNew (map (λ (r : Row). r.name) rows) → length rows ≤ 1_000_000 → All (HasForm (length b.columns)) rows → entry_count rows ≤ 20_000_000 → AreLeft b left (record b { rows = rows })
all-left b rows left same none new few forms entries =
    let one : IsLeft b rows (record b { rows = rows }) = left-at-first b rows none new few (omega (arith, entries-same rows, entries)) in
    rw same (one, forms)

pub next-new : (b whole : Problem) (row : Row) (rows rest : List Row) → rows ≡ row ∷ rest → AreLeft b rows whole → has_row row.name b.rows ≡ false
next-new b whole row rows rest split left =
    row-new b whole row rest (subst (λ (rs : List Row). IsLeft b rs whole) split left.0)

pub next-added : (b more whole : Problem) (row : Row) (rows rest : List Row) → more ≡ record b { rows = b.rows ++ row ∷ [] } → rows ≡ row ∷ rest → AreLeft b rows whole → AreLeft more rest whole
next-added b more whole row rows rest is split left =
    let forms : All (HasForm (length b.columns)) rest = All-tail (HasForm (length b.columns)) row rest (subst (All (HasForm (length b.columns))) split left.1) in
    (row-added b more whole row rows rest is split left.0, rw is forms)
