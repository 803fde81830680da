-- Which of the two kinds of texts a text is meant to be.
use Rattle.std.specs.Prelude.{ℕ, Bool, false, List, slice_get, codes}
use Rattle.std.specs.Option.{option_map_or}
use Rattle.std.specs.Str.{bytes_eq}
use Rattle.std.specs.List.{slice_split}
use Rattle.certificate_lines.specs.Lines.{is_feed}

-- the third line is `verdict undecided`
abbrev pub names_undecided : List ℕ → Bool
names_undecided text = option_map_or (λ line. bytes_eq line (codes "verdict undecided")) (slice_get (slice_split is_feed text) 2) false
