-- Names that differ, in the order in which they came.
use Rattle.std.specs.Prelude.{ℕ, Bool, List, [], ◌∷◌, ◌++◌, if◌then◌else◌, fold, Option}
use Rattle.std.specs.List.{list_any, position}
use Rattle.std.specs.Str.{bytes_eq}

abbrev pub Name : Type 0
Name = List ℕ

abbrev pub is_name : Name → Name → Bool
is_name name there = bytes_eq name there

abbrev pub has : Name → List Name → Bool
has name names = list_any (is_name name) names

abbrev pub place_of : Name → List Name → Option ℕ
place_of name names = position (is_name name) names

-- a name that is there stays where it is, and another comes last
abbrev pub with_name : List Name → Name → List Name
with_name names name = if has name names then names else names ++ name ∷ []

abbrev pub with_names : List Name → List Name → List Name
with_names names more = fold with_name names more
