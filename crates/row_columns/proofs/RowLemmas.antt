-- The whole forms of rows, row by row.
use Rattle.std.proofs.Common.{◌≡◌, ◌∙◌, ◌<◌, ◌≤◌, ℕ, ◌+◌, true, List, [], ◌∷◌, ◌++◌, length, get_or, drop, Option, Some, None, refl, sym, ap, subst}
use Rattle.std.specs.List.{list_all}
use Rattle.std.proofs.lemmas.Bool.{and_parts, and_from}
use Rattle.std.proofs.lemmas.List.{append-nil, append_assoc, drop_more, drop_all}
use Rattle.std.proofs.lemmas.List.Sums.{AllPass-from_list_all}
use Rattle.milp.specs.Form.{Entry}
use Rattle.milp.specs.Problem.{Row, Problem}
use Rattle.verdicts.specs.Proves.{is_whole_form}
use Rattle.instance.specs.WellFormed.{are_entries}
use Rattle.instance.proofs.Laws.{entries_within}
use Rattle.row_columns.specs.RowForms.{AreRowForms, IsRowForm, with_form}
use Rattle.row_columns.specs.Scaling.{IsFormAdded}

-- whatever forms the rows have from the i-th on, these before them are the forms of all
abbrev pub AreFirstForms : Problem → List Row → ℕ → List (List Entry) → Type 0
AreFirstForms p rows i forms = (rest : List (List Entry)) → AreRowForms p (drop i rows) rest → AreRowForms p rows (forms ++ rest)

pub no_rows : (p : Problem) (rows : List Row) (forms : List (List Entry)) → forms ≡ [] → AreFirstForms p rows 0 forms
no_rows p rows forms is rest h = subst (λ fs. AreRowForms p rows (fs ++ rest)) (sym is) h

with_form_before : (old : List (List Entry)) (made : Option (List Entry)) (rest : List (List Entry)) → old ++ with_form made rest ≡ (old ++ with_form made []) ++ rest
with_form_before old None rest = ap (λ fs. fs ++ rest) (sym (append-nil old))
with_form_before old (Some form) rest = sym (append_assoc old (form ∷ []) rest)

pub one_more_row : (p : Problem) (rows : List Row) (i : ℕ) (r : Row) (old new : List (List Entry)) → i < length rows → r ≡ get_or rows i r → IsFormAdded p r.entries old new → AreFirstForms p rows i old → AreFirstForms p rows (i + 1) new
one_more_row p rows i r old new h is made first rest are =
    let there : drop i rows ≡ r ∷ drop (i + 1) rows = drop_more rows i r h ∙ ap (λ x. x ∷ drop (i + 1) rows) (sym is) in
    let more = with_form made.made rest in
    let from_here : AreRowForms p (drop i rows) more = subst (λ rs. AreRowForms p rs more) (sym there) (made.made, made.is_form, rest, are, refl) in
    subst (AreRowForms p rows) (with_form_before old made.made rest ∙ ap (λ fs. fs ++ rest) (sym made.added)) (first more from_here)

pub all_rows : (p : Problem) (rows : List Row) (i : ℕ) (forms : List (List Entry)) → length rows ≤ i → AreFirstForms p rows i forms → AreRowForms p rows forms
all_rows p rows i forms h first = subst (AreRowForms p rows) (append-nil forms) (first [] (subst (λ rs. AreRowForms p rs []) (sym (drop_all i rows h)) refl))

pub row_entries : (n : ℕ) (rows : List Row) (i : ℕ) (r : Row) → i < length rows → r ≡ get_or rows i r → list_all (λ (s : Row). are_entries n s.entries) rows ≡ true → are_entries n r.entries ≡ true
row_entries n rows i r h is all = subst (λ (s : Row). are_entries n s.entries ≡ true) (sym is) (AllPass-from_list_all _ rows all i r h)

pub rows_within : (m n : ℕ) → m ≤ n → (rows : List Row) → list_all (λ (r : Row). are_entries m r.entries) rows ≡ true → list_all (λ (r : Row). are_entries n r.entries) rows ≡ true
rows_within m n le [] h = refl
rows_within m n le (r ∷ rows) h = let parts = and_parts _ _ h in and_from _ _ (entries_within 0 m n le r.entries parts.0) (rows_within m n le rows parts.1)

whole_with : (p : Problem) (form : List Entry) (made : Option (List Entry)) (rest forms : List (List Entry)) → IsRowForm p form made → list_all (is_whole_form p) rest ≡ true → forms ≡ with_form made rest → list_all (is_whole_form p) forms ≡ true
whole_with p form None rest forms h k is = ap (list_all (is_whole_form p)) is ∙ k
whole_with p form (Some f) rest forms h k is = ap (list_all (is_whole_form p)) is ∙ and_from _ _ h.2 k

-- the forms are whole
pub forms_whole : (p : Problem) (rows : List Row) (forms : List (List Entry)) → AreRowForms p rows forms → list_all (is_whole_form p) forms ≡ true
forms_whole p [] forms h = ap (list_all (is_whole_form p)) h
forms_whole p (r ∷ rows) forms h = whole_with p r.entries h.0 h.2 forms h.1 (forms_whole p rows h.2 h.3) h.4
