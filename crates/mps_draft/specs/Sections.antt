-- The sections of a free MPS text, and their order.
use Rattle.std.specs.Prelude.{ℕ, nat_lt, nat_le, ◌&&◌, Bool, true, false, List, codes, Some, None, if◌then◌else◌}
use Rattle.std.specs.declared.option.Option.{Option}
use Rattle.std.specs.Str.{bytes_eq}
use Rattle.mps_draft.specs.declared.section.Section.{Section}
use Rattle.mps_draft.specs.declared.section.Section.TheVariants.{Start, NameLine, SenseAwaited, SenseGiven, Rows, Columns, Rhs, Ranges, Bounds, Ended}

-- ---- headers

abbrev pub section_of : List ℕ → Option Section
section_of word =
    if bytes_eq word (codes "NAME") then Some NameLine
    else if bytes_eq word (codes "OBJSENSE") then Some SenseAwaited
    else if bytes_eq word (codes "ROWS") then Some Rows
    else if bytes_eq word (codes "COLUMNS") then Some Columns
    else if bytes_eq word (codes "RHS") then Some Rhs
    else if bytes_eq word (codes "RANGES") then Some Ranges
    else if bytes_eq word (codes "BOUNDS") then Some Bounds
    else if bytes_eq word (codes "ENDATA") then Some Ended
    else None

-- ---- the order of sections

abbrev pub rank : Section → ℕ
rank Start = 0
rank NameLine = 1
rank SenseAwaited = 2
rank SenseGiven = 2
rank Rows = 3
rank Columns = 4
rank Rhs = 5
rank Ranges = 6
rank Bounds = 7
rank Ended = 8

-- the last of the sections that may come next: ROWS and COLUMNS may not be left out
abbrev pub furthest : Section → Section
furthest Start = Rows
furthest NameLine = Rows
furthest SenseAwaited = Rows
furthest SenseGiven = Rows
furthest Rows = Columns
furthest Columns = Ended
furthest Rhs = Ended
furthest Ranges = Ended
furthest Bounds = Ended
furthest Ended = Ended

abbrev pub may_follow : Section → Section → Bool
may_follow section next = nat_lt (rank section) (rank next) && nat_le (rank next) (rank (furthest section))

-- ---- where the text stands

abbrev pub is_ended : Section → Bool
is_ended Start = false
is_ended NameLine = false
is_ended SenseAwaited = false
is_ended SenseGiven = false
is_ended Rows = false
is_ended Columns = false
is_ended Rhs = false
is_ended Ranges = false
is_ended Bounds = false
is_ended Ended = true

-- OBJSENSE stands without its word
abbrev pub awaits_sense : Section → Bool
awaits_sense Start = false
awaits_sense NameLine = false
awaits_sense SenseAwaited = true
awaits_sense SenseGiven = false
awaits_sense Rows = false
awaits_sense Columns = false
awaits_sense Rhs = false
awaits_sense Ranges = false
awaits_sense Bounds = false
awaits_sense Ended = false
