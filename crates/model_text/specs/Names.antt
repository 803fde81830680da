-- Names that differ.
use Rattle.std.specs.Prelude.{ℕ, ◌≡◌, ◌<◌, Bool, false, List, [], length, take, get_or}
use Rattle.std.specs.List.{list_any}
use Rattle.std.specs.Str.{bytes_eq}

abbrev pub is_name : List ℕ → List ℕ → Bool
is_name name there = bytes_eq there name

-- no name is one before it
abbrev pub AreNew : List (List ℕ) → Type 0
AreNew names = (i : ℕ) → i < length names → list_any (is_name (get_or names i [])) (take i names) ≡ false
