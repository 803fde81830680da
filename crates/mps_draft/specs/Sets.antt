-- Sets: only the lines of the section's first one count, where lines without a set are a set of their own.
use Rattle.std.specs.Prelude.{ℕ, Bool, true, false, List, Some, None, unwrap_or}
use Rattle.std.specs.declared.option.Option.{Option}
use Rattle.std.specs.Str.{bytes_eq}
use Rattle.mps_draft.specs.Declaration.{Declaration}

-- a line with a set beside lines without one, or the other way round
abbrev pub mixes_sets : Option (Option (List ℕ)) → Option (List ℕ) → Bool
mixes_sets None set = false
mixes_sets (Some None) None = false
mixes_sets (Some None) (Some set) = true
mixes_sets (Some (Some first)) None = true
mixes_sets (Some (Some first)) (Some set) = false

abbrev pub is_same_set : Option (List ℕ) → Option (List ℕ) → Bool
is_same_set None None = true
is_same_set None (Some set) = false
is_same_set (Some first) None = false
is_same_set (Some first) (Some set) = bytes_eq first set

abbrev pub is_of_first_set : Option (Option (List ℕ)) → Option (List ℕ) → Bool
is_of_first_set None set = true
is_of_first_set (Some first) set = is_same_set first set

abbrev pub with_set : Option (List ℕ) → Declaration → Declaration
with_set set d = record d { first_set = Some (unwrap_or d.first_set set) }
