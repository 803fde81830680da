-- Columns and rows that are added one by one to a problem in the making.
use Rattle.std.proofs.Common.{◌≡◌, ◌∙◌, true, false, List, [], ◌∷◌, ◌++◌, length, sym, ap, subst}
use Rattle.std.proofs.lemmas.Bool.{and_parts, not-true}
use Rattle.std.proofs.lemmas.List.{append_assoc}
use Rattle.std.specs.List.{list_all}
use Rattle.milp.specs.Problem.{Column, Row, Problem}
use Rattle.instance.specs.WellFormed.{has_column, are_distinct_columns, are_distinct_rows, are_entries}

-- what is left of the columns to be added can follow those that are there, and completes them
pub record IsOnWay (old now : Problem) (all left : List Column) : Type 0 where
  pub others : now ≡ record old { columns = now.columns }
  pub names : are_distinct_columns now.columns left ≡ true
  pub columns : now.columns ++ left ≡ old.columns ++ all

pub next_is_new : (old now : Problem) (all left rest : List Column) (c : Column) → left ≡ c ∷ rest → IsOnWay old now all left → has_column c.name now.columns ≡ false
next_is_new old now all left rest c is w =
    let names : are_distinct_columns now.columns (c ∷ rest) ≡ true = subst (λ cs. are_distinct_columns now.columns cs ≡ true) is w.names in
    not-true (has_column c.name now.columns) (and_parts _ _ names).0

pub one_more : (old now more : Problem) (all left rest : List Column) (c : Column) → left ≡ c ∷ rest → more ≡ record now { columns = now.columns ++ c ∷ [] } → IsOnWay old now all left → IsOnWay old more all rest
one_more old now more all left rest c is added w =
    let then : Problem = record now { columns = now.columns ++ c ∷ [] } in
    let names : are_distinct_columns now.columns (c ∷ rest) ≡ true = subst (λ cs. are_distinct_columns now.columns cs ≡ true) is w.names in
    let here : IsOnWay old then all rest = record {
      others = ap (λ (p : Problem). record p { columns = now.columns ++ c ∷ [] }) w.others;
      names = (and_parts _ _ names).1;
      columns = append_assoc now.columns (c ∷ []) rest ∙ ap (λ cs. now.columns ++ cs) (sym is) ∙ w.columns;
    } in
    subst (λ q. IsOnWay old q all rest) (sym added) here

-- the same of rows, whose entries are of the problem's columns
pub record AreOnWay (old now : Problem) (all left : List Row) : Type 0 where
  pub others : now ≡ record old { rows = now.rows }
  pub names : are_distinct_rows now.rows left ≡ true
  pub entries : list_all (λ (r : Row). are_entries (length now.columns) r.entries) left ≡ true
  pub rows : now.rows ++ left ≡ old.rows ++ all
