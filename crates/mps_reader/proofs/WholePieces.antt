-- A piece without tabs is one field, or none where it is empty.
use Rattle.std.proofs.Common.{◌≡◌, ◌∙◌, ℕ, Bool, false, List, [], ◌∷◌, length, not, cond, ◌++◌, map, Bor, ap, sym, refl, filter, codes, ◌==◌}
use Rattle.std.specs.List.{list_any, slice_split, onto_first}
use Rattle.std.proofs.lemmas.Bool.{or_parts}
use Rattle.std.proofs.lemmas.List.{map-append}
use Rattle.std.proofs.lemmas.List.Splits.{slice_split-cons_no}
use Rattle.model_text.specs.Bytes.{is_one_of}
use Rattle.mps_reader.specs.Lines.{is_some_field, tabbed_fields}

one_part : (p : ℕ → Bool) (xs : List ℕ) → list_any p xs ≡ false → slice_split p xs ≡ xs ∷ []
one_part p [] h = refl
one_part p (x ∷ xs) h =
    let both = or_parts (p x) (list_any p xs) h in
    slice_split-cons_no p x xs both.0 ∙ ap (onto_first x) (one_part p xs both.1)

pub whole_piece : (piece : List ℕ) → list_any (is_one_of (codes "\t")) piece ≡ false → tabbed_fields piece ≡ filter is_some_field (piece ∷ [])
whole_piece piece h = ap (filter is_some_field) (one_part (is_one_of (codes "\t")) piece h)

some_piece : (piece : List ℕ) → (length piece == 0) ≡ false → list_any (is_one_of (codes "\t")) piece ≡ false → tabbed_fields piece ≡ piece ∷ []
some_piece piece e h = whole_piece piece h ∙ ap (λ b. cond (not b) (piece ∷ []) []) e

pub pushed : (fields : List (Bor (List ℕ))) (piece : Bor (List ℕ)) → (length piece.now == 0) ≡ false → list_any (is_one_of (codes "\t")) piece.now ≡ false → map (λ l. l.now) (fields ++ piece ∷ []) ≡ map (λ l. l.now) fields ++ tabbed_fields piece.now
pushed fields piece e h = map-append (λ l. l.now) fields (piece ∷ []) ∙ ap (λ more. map (λ l. l.now) fields ++ more) (sym (some_piece piece.now e h))
