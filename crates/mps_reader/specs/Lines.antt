-- The fields of the lines of a free MPS text.
use Rattle.std.specs.Prelude.{ℕ, ◌==◌, Bool, false, List, [], ◌∷◌, length, not, filter, codes}
use Rattle.std.specs.List.{slice_split, flat_map}
use Rattle.model_text.specs.Bytes.{is_one_of}

abbrev pub is_some_field : List ℕ → Bool
is_some_field field = not (length field == 0)

-- the fields of a piece without spaces: tabs part them
abbrev pub tabbed_fields : List ℕ → List (List ℕ)
tabbed_fields piece = filter is_some_field (slice_split (is_one_of (codes "\t")) piece)

-- fields are parted by blanks: spaces and tabs
abbrev pub fields_of : List ℕ → List (List ℕ)
fields_of line = flat_map tabbed_fields (slice_split (is_one_of (codes " ")) line)

abbrev pub is_blank : ℕ → Bool
is_blank b = is_one_of (codes " \t") b

-- a header begins with another character than a blank
abbrev pub is_header : List ℕ → Bool
is_header [] = false
is_header (b ∷ bs) = not (is_blank b)
