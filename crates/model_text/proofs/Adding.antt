-- Rows are added to a problem one after another.
use Rattle.std.proofs.Common.{◌≡◌, ◌∙◌, ◌+◌, ◌<◌, ◌≤◌, false, List, [], ◌∷◌, ◌++◌, length, map, get_or, refl, sym, ap, subst, arith}
use Rattle.std.proofs.lemmas.List.{append_assoc, length-append}
use Rattle.std.proofs.Math.Seq.{take-append_seam, get_or-append_seam}
use Rattle.milp.specs.Problem.{Problem, Row}
use Rattle.instance.specs.WellFormed.{has_row, entry_count}
use Rattle.instance.proofs.Laws.{entry_count-snoc}
use Rattle.model_text.specs.Names.{AreNew}
use Rattle.model_text.proofs.Laws.{new-at}

-- the rows that are left can be added, and then it is the whole
pub record IsLeft (b : Problem) (rows : List Row) (whole : Problem) : Type 0 where
  pub same : record b { rows = b.rows ++ rows } ≡ whole
  pub new : AreNew (map (λ (r : Row). r.name) (b.rows ++ rows))
  pub few : length b.rows + length rows ≤ 1_000_000
  pub entries : entry_count b.rows + entry_count rows ≤ 20_000_000

pub left-at-first : (b : Problem) (rows : List Row) → b.rows ≡ [] → AreNew (map (λ (r : Row). r.name) rows) → length rows ≤ 1_000_000 → entry_count rows ≤ 20_000_000 → IsLeft b rows (record b { rows = rows })
left-at-first b rows none new few entries = record {
  same = rw none refl;
  new = rw none new;
  few = rw none (omega (arith, few));
  entries = rw none (omega (arith, entries));
}

-- ---- one row more

module _ (b whole : Problem) (row : Row) (rest : List Row) (left : IsLeft b (row ∷ rest) whole) where
  pub row-new : has_row row.name b.rows ≡ false
  row-new =
      let here : get_or (b.rows ++ row ∷ rest) (length b.rows) row ≡ row = get_or-append_seam b.rows row rest row in
      let within : length b.rows < length (b.rows ++ row ∷ rest) = omega (arith, length-append b.rows (row ∷ rest)) in
      let new = new-at (λ (r : Row). r.name) (b.rows ++ row ∷ rest) (length b.rows) row left.new within (sym here) in
      subst (λ (rs : List Row). has_row row.name rs ≡ false) (take-append_seam b.rows (row ∷ rest)) new

  pub row-room : length b.rows < 1_000_000
  row-room = omega (arith, left.few)

  pub row-entries : entry_count b.rows + length row.entries ≤ 20_000_000
  row-entries = omega (arith, left.entries)

  pub one-less : IsLeft (record b { rows = b.rows ++ row ∷ [] }) rest whole
  one-less = record {
    same = ap (λ (rs : List Row). record b { rows = rs }) (append_assoc b.rows (row ∷ []) rest) ∙ left.same;
    new = rw (append_assoc b.rows (row ∷ []) rest) left.new;
    few = omega (arith, length-append b.rows (row ∷ []), left.few);
    entries = omega (arith, entry_count-snoc b.rows row, left.entries);
  }

pub row-added : (b more whole : Problem) (row : Row) (rows rest : List Row) → more ≡ record b { rows = b.rows ++ row ∷ [] } → rows ≡ row ∷ rest → IsLeft b rows whole → IsLeft more rest whole
row-added b more whole row rows rest is split left =
    subst (λ (p : Problem). IsLeft p rest whole) (sym is) (one-less b whole row rest (subst (λ (rs : List Row). IsLeft b rs whole) split left))
