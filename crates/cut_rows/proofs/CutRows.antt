-- The rows of cuts fit behind those of the problem.
use Rattle.std.proofs.Common.{◌≡◌, ◌∙◌, ◌<◌, ◌≤◌, ℕ, suc, ◌+◌, true, List, [], ◌∷◌, ◌++◌, length, map, drop, get_or, refl, sym, ap, subst, arith}
use Rattle.std.specs.Prelude.{Result, Ok, Err, IsErrAnd, IfErr}
use Rattle.std.specs.List.{list_all, AllByRecursion}
use Rattle.std.proofs.lemmas.Bool.{and_parts, and_from}
use Rattle.std.proofs.lemmas.List.{length-append, length-map, append_assoc, drop_more}
use Rattle.std.proofs.Math.Decide.{dec_lt}
use Rattle.milp.specs.Form.{Entry}
use Rattle.milp.specs.Problem.{Row, Problem}
use Rattle.verdicts.specs.Certificate.{Derived}
use Rattle.verdicts.specs.Proves.{in_range}
use Rattle.instance.specs.WellFormed.{are_entries_from, are_entries, are_distinct_rows, entry_count}
use Rattle.certificate.specs.Written.{count_max, IsDerived}
use Rattle.row_columns.specs.Extending.{row_names, AreWithin}
use Rattle.row_columns.proofs.Adding.{AreOnWay}
use Rattle.row_columns.proofs.NewNames.{new_names, new_rows_apart}
use Rattle.cut_rows.specs.CutProblem.{AreCutRows, IsCutProblem, PassLimits, of_rows, of_entries, IsTooLarge}
use Rattle.cut_rows.specs.Cutting.{cut_row, cut_rows}

-- ---- names

abbrev forms_of : List Derived → List (List Entry)
forms_of cuts = map (λ (d : Derived). d.form) cuts

rows_named : (prefix : List ℕ) (j : ℕ) (cuts : List Derived) → row_names (cut_rows prefix j cuts) ≡ new_names prefix j (forms_of cuts)
rows_named prefix j [] = refl
rows_named prefix j (d ∷ cuts) = ap (λ ns. (cut_row prefix j d).name ∷ ns) (rows_named prefix (j + 1) cuts)

pub cut_rows_apart : (prefix : List ℕ) (cuts all : List Derived) (rows made : List Row) → made ≡ cut_rows prefix 0 cuts → cuts ≡ all → length all ≤ count_max → AreWithin (length prefix) (row_names rows) → are_distinct_rows rows made ≡ true
cut_rows_apart prefix cuts all rows made is same few within =
    let count : length (forms_of cuts) ≡ length all = length-map cuts (λ (d : Derived). d.form) ∙ ap length same in
    ap (are_distinct_rows rows) is ∙ new_rows_apart prefix (forms_of cuts) rows (cut_rows prefix 0 cuts) (omega (arith, count, few)) (rows_named prefix 0 cuts) within

-- ---- entries

within : (least most n : ℕ) (form : List Entry) → in_range n form ≡ true → are_entries_from least most form ≡ true → are_entries_from least n form ≡ true
within least most n [] r h = refl
within least most n (e ∷ es) r h =
    let inside = and_parts _ _ r in
    let low = and_parts _ _ h in
    let high = and_parts _ _ low.1 in
    let some = and_parts _ _ high.1 in
    and_from _ _ low.0 (and_from _ _ inside.0 (and_from _ _ some.0 (within (e.column + 1) most n es inside.1 some.1)))

rows_within : (prefix : List ℕ) (n j : ℕ) (cuts : List Derived) → list_all (λ (d : Derived). in_range n d.form) cuts ≡ true → AllByRecursion IsDerived cuts → list_all (λ (r : Row). are_entries n r.entries) (cut_rows prefix j cuts) ≡ true
rows_within prefix n j [] r h = refl
rows_within prefix n j (d ∷ cuts) r h =
    let parts = and_parts _ _ r in
    and_from _ _ (within 0 count_max n d.form parts.0 h.0.form.entries) (rows_within prefix n (j + 1) cuts parts.1 h.1)

pub cut_rows_within : (prefix : List ℕ) (n : ℕ) (cuts all : List Derived) (made : List Row) → made ≡ cut_rows prefix 0 cuts → cuts ≡ all → list_all (λ (d : Derived). in_range n d.form) all ≡ true → AllByRecursion IsDerived all → list_all (λ (r : Row). are_entries n r.entries) made ≡ true
cut_rows_within prefix n cuts all made is same r h =
    ap (λ rs. list_all (λ (r : Row). are_entries n r.entries) rs) (is ∙ ap (cut_rows prefix 0) same) ∙ rows_within prefix n 0 all r h

-- ---- the problem with them

are_cut_rows : (prefix : List ℕ) (j : ℕ) (cuts : List Derived) → AreCutRows cuts (cut_rows prefix j cuts)
are_cut_rows prefix j [] = refl
are_cut_rows prefix j (d ∷ cuts) = (record { lower = refl; upper = refl; entries = refl }, are_cut_rows prefix (j + 1) cuts)

pub cut_problem : (p : Problem) (prefix : List ℕ) (cuts all : List Derived) (made : List Row) (built q : Problem) → made ≡ cut_rows prefix 0 cuts → cuts ≡ all → built ≡ record p { rows = p.rows ++ made } → q ≡ built → IsCutProblem p all q
cut_problem p prefix cuts all made built q is same b done =
    let whole : q ≡ record p { rows = p.rows ++ made } = done ∙ b in
    record {
      columns = ap (λ (x : Problem). x.columns) whole;
      rows = cut_rows prefix 0 all;
      are_rows = are_cut_rows prefix 0 all;
      all_rows = ap (λ (x : Problem). x.rows) whole ∙ ap (λ rs. p.rows ++ rs) (is ∙ ap (cut_rows prefix 0) same);
      direction = ap (λ (x : Problem). x.direction) whole;
      objective = ap (λ (x : Problem). x.objective) whole;
      constant = ap (λ (x : Problem). x.constant) whole;
    }

-- ---- limits

entries-append : (xs ys : List Row) → entry_count (xs ++ ys) ≡ entry_count xs + entry_count ys
entries-append [] ys = omega arith
entries-append (x ∷ xs) ys = let e = entries-append xs ys in omega (arith, e)

-- more rows pass them too
pub more_rows_pass : (xs ys : List Row) → PassLimits xs → PassLimits (xs ++ ys)
more_rows_pass xs ys (of_rows h) = let e = length-append xs ys in of_rows (omega (arith, e))
more_rows_pass xs ys (of_entries h) = let e = entries-append xs ys in of_entries (omega (arith, e))

-- a row that is not taken where there is room for a row has too many entries
pub row_passes : (rows : List Row) (r : Row) → (length rows < 1000000 → 20000000 < entry_count rows + length r.entries) → PassLimits (rows ++ r ∷ [])
row_passes rows r h = elim (dec_lt (length rows) 1000000) [
  | yes low ↦ let e = entries-append rows (r ∷ []) in let f = h low in of_entries (omega (arith, e, f))
  | no high ↦ let e = length-append rows (r ∷ []) in of_rows (omega (arith, e))
]

pub err_from : {X E : Type 0} (r : Result X E) (e : E) (P : E → Type 0) → IsErrAnd r (λ d. d ≡ e) → P e → IfErr r P
err_from (Ok u) e P h p = tt
err_from (Err d) e P h p = subst P (sym h) p

-- then all rows that are to be added pass them
pub all_rows_pass : (old now : Problem) (all : List Row) (i : ℕ) (r : Row) → i < length all → r ≡ get_or all i r → AreOnWay old now all (drop i all) → PassLimits (now.rows ++ r ∷ []) → PassLimits (old.rows ++ all)
all_rows_pass old now all i r h is way pass =
    let rest = drop (i + 1) all in
    let there : drop i all ≡ r ∷ rest = drop_more all i r h ∙ ap (λ x. x ∷ rest) (sym is) in
    let whole : (now.rows ++ r ∷ []) ++ rest ≡ old.rows ++ all = append_assoc now.rows (r ∷ []) rest ∙ ap (λ rs. now.rows ++ rs) (sym there) ∙ way.rows in
    subst PassLimits whole (more_rows_pass (now.rows ++ r ∷ []) rest pass)

-- the problem's own rows pass them already
pub own_rows_pass : (p old : Problem) (own more : List Row) → old ≡ record p { rows = [] } → own ≡ p.rows → PassLimits (old.rows ++ own) → PassLimits (p.rows ++ more)
own_rows_pass p old own more e is h = more_rows_pass p.rows more (subst PassLimits (ap (λ (x : Problem). x.rows ++ own) e ∙ is) h)

same_length : (cuts : List Derived) (xs ys : List Row) → AreCutRows cuts xs → AreCutRows cuts ys → length xs ≡ length ys
same_length [] xs ys h k = ap length (h ∙ sym k)
same_length (d ∷ cuts) [] ys h k = absurd h
same_length (d ∷ cuts) (x ∷ xs) [] h k = absurd k
same_length (d ∷ cuts) (x ∷ xs) (y ∷ ys) h k = ap suc (same_length cuts xs ys h.1 k.1)

same_entries : (cuts : List Derived) (xs ys : List Row) → AreCutRows cuts xs → AreCutRows cuts ys → entry_count xs ≡ entry_count ys
same_entries [] xs ys h k = ap entry_count (h ∙ sym k)
same_entries (d ∷ cuts) [] ys h k = absurd h
same_entries (d ∷ cuts) (x ∷ xs) [] h k = absurd k
same_entries (d ∷ cuts) (x ∷ xs) (y ∷ ys) h k =
    let here : length x.entries ≡ length y.entries = ap length (h.0.entries ∙ sym k.0.entries) in
    let rest = same_entries cuts xs ys h.1 k.1 in
    omega (arith, here, rest)

pass_again : (rows xs ys : List Row) → length xs ≡ length ys → entry_count xs ≡ entry_count ys → PassLimits (rows ++ xs) → PassLimits (rows ++ ys)
pass_again rows xs ys count entries (of_rows h) =
    let e = length-append rows xs in
    let f = length-append rows ys in
    of_rows (omega (arith, count, e, f))
pass_again rows xs ys count entries (of_entries h) =
    let e = entries-append rows xs in
    let f = entries-append rows ys in
    of_entries (omega (arith, entries, e, f))

-- what they are called doesn't matter
pub too_large : (p : Problem) (prefix : List ℕ) (cuts all : List Derived) (made : List Row) → made ≡ cut_rows prefix 0 cuts → cuts ≡ all → PassLimits (p.rows ++ made) → IsTooLarge p all
too_large p prefix cuts all made is same h q cut =
    let rows = cut_rows prefix 0 all in
    let are : AreCutRows all rows = are_cut_rows prefix 0 all in
    let here : PassLimits (p.rows ++ rows) = subst (λ rs. PassLimits (p.rows ++ rs)) (is ∙ ap (cut_rows prefix 0) same) h in
    subst PassLimits (sym cut.all_rows) (pass_again p.rows rows cut.rows (same_length all rows cut.rows are cut.are_rows) (same_entries all rows cut.rows are cut.are_rows) here)
