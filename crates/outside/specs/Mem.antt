-- What stores and sinks in memory tell.
use Rattle.std.specs.Prelude.{◌≡◌, ℕ, List, drop, string_bytes, slice_get, Some}
use Rattle.std.specs.declared.option.Option.{Option}
use Rattle.std.specs.Option.{option_map, option_and_then}
use Rattle.std.specs.List.{find}
use Rattle.std.specs.Str.{bytes_eq}
use Rattle.outside.specs.declared.sure_store.MemFile.{MemFile}
use Rattle.outside.specs.declared.sure_store.Hand.{Hand}

-- the bytes of the newest file of this name
abbrev pub bytes_named : List MemFile → List ℕ → Option (List ℕ)
bytes_named files name = option_map (λ (f : MemFile). f.bytes.items) (find (λ (f : MemFile). bytes_eq (string_bytes f.name) name) files)

-- the file in hand that made the newest file of this name
abbrev pub maker_named : List MemFile → List ℕ → Option ℕ
maker_named files name = option_and_then (λ (f : MemFile). f.maker) (find (λ (f : MemFile). bytes_eq (string_bytes f.name) name) files)

-- what is left of a file in hand
abbrev pub rest_of : Hand → List ℕ
rest_of hand = drop hand.at hand.bytes.items

-- the name of a file that is written
abbrev pub name_written : List Hand → ℕ → Option (List ℕ)
name_written hands file = option_and_then (λ (h : Hand). option_map string_bytes h.name) (slice_get hands file)

-- what is written to a file in hand counts for this name: it made the newest file of it
abbrev pub counts_for : List Hand → List MemFile → ℕ → List ℕ → Type 0
counts_for hands files file name = (name_written hands file ≡ Some name) × (maker_named files name ≡ Some file)
