-- Rows are added one after another.
use Rattle.std.proofs.Common.{◌≡◌, ◌∙◌, ◌≤◌, ◌+◌, ◌++◌, ◌&&◌, Bool, true, false, List, [], ◌∷◌, length, Some, None, Option, slice_get, refl, sym, ap, subst, arith, IsTrue}
use Rattle.std.specs.List.{list_all}
use Rattle.std.proofs.lemmas.List.{append_assoc, length-append}
use Rattle.milp.specs.Problem.{Problem, Row, Column}
use Rattle.instance.specs.WellFormed.{are_distinct_rows, are_entries, entry_count}
use Rattle.gmpl_rows.specs.declared.draft.ObjectiveRow.{ObjectiveRow}
use Rattle.gmpl_rows.specs.Problem.{objective_of, aimed_at, plain}

-- the rows that are left can be added, and then it is the whole
pub record IsLeft (b : Problem) (rows : List Row) (whole : Problem) : Type 0 where
  pub same : record b { rows = b.rows ++ rows } ≡ whole
  pub new : IsTrue (are_distinct_rows b.rows rows)
  pub forms : IsTrue (list_all (λ (r : Row). are_entries (length b.columns) r.entries) rows)
  pub room : length b.rows + length rows ≤ 1000000
  pub entry_room : entry_count b.rows + entry_count rows ≤ 20000000

second : (a b : Bool) → (a && b) ≡ true → b ≡ true
second true b h = h
second false b h = cc

entry_count-push : (rows : List Row) (r : Row) → entry_count (rows ++ r ∷ []) ≡ entry_count rows + length r.entries
entry_count-push [] r = omega arith
entry_count-push (s ∷ rows) r = omega (arith, entry_count-push rows r)

one-less : (b whole : Problem) (row : Row) (rest : List Row) → IsLeft b (row ∷ rest) whole → IsLeft (record b { rows = b.rows ++ row ∷ [] }) rest whole
one-less b whole row rest left = record {
  same = ap (λ (rs : List Row). record b { rows = rs }) (append_assoc b.rows (row ∷ []) rest) ∙ left.same;
  new = second _ _ left.new;
  forms = second _ _ left.forms;
  room = omega (arith, length-append b.rows (row ∷ []), left.room);
  entry_room = omega (arith, entry_count-push b.rows row, left.entry_room);
}

pub row-added : (b more whole : Problem) (row : Row) (rows rest : List Row) → more ≡ record b { rows = b.rows ++ row ∷ [] } → rows ≡ row ∷ rest → IsLeft b rows whole → IsLeft more rest whole
row-added b more whole row rows rest is split left =
    subst (λ (p : Problem). IsLeft p rest whole) (sym is) (one-less b whole row rest (subst (λ (rs : List Row). IsLeft b rs whole) split left))

-- ---- the objective

pub objective-with : (aim : Option ObjectiveRow) (rows : List Row) (columns : List Column) → record (aimed_at aim rows (plain columns [])) { rows = (aimed_at aim rows (plain columns [])).rows ++ rows } ≡ aimed_at aim rows (plain columns rows)
objective-with None rows columns = refl
objective-with (Some a) rows columns = one (slice_get rows a.row)
  where
    one : (r : Option Row) → record (objective_of a r (plain columns [])) { rows = (objective_of a r (plain columns [])).rows ++ rows } ≡ objective_of a r (plain columns rows)
    one None = refl
    one (Some r) = refl

pub assembled : (aim : Option ObjectiveRow) (rows : List Row) (columns : List Column) (start with_columns aimed full done : Problem) → start ≡ plain [] [] → with_columns ≡ record start { columns = start.columns ++ columns } → aimed ≡ aimed_at aim rows with_columns → full ≡ record aimed { rows = aimed.rows ++ rows } → done ≡ full → done ≡ aimed_at aim rows (plain columns rows)
assembled aim rows columns start with_columns aimed full done a b c d e =
    let columns_are : with_columns ≡ plain columns [] = b ∙ ap (λ (p : Problem). record p { columns = p.columns ++ columns }) a in
    let aimed_is : aimed ≡ aimed_at aim rows (plain columns []) = c ∙ ap (aimed_at aim rows) columns_are in
    e ∙ d ∙ ap (λ (p : Problem). record p { rows = p.rows ++ rows }) aimed_is ∙ objective-with aim rows columns
