-- A sequence of whole numbers from 1 to 9, always the same one.
use Rattle.std.specs.Prelude.{ℕ, zero, suc, ◌+◌, ◌*◌, ◌/◌, ◌%◌, List, [], ◌∷◌}

-- the state behind a state: a linear congruential generator
abbrev pub next_state : ℕ → ℕ
next_state state = (state * 1103515245 + 12345) % 2147483648

-- the number that is drawn at a state
abbrev pub drawn : ℕ → ℕ
drawn state = (state / 65536) % 9 + 1

-- the state of the draw of this number; the first draw is the draw of number 1, and the state before it is 1
abbrev pub state_of : ℕ → ℕ
state_of zero = 1
state_of (suc number) = next_state (state_of number)

-- the state of the draw that is four draws behind that of a state
abbrev pub fourth_state : ℕ → ℕ
fourth_state state = next_state (next_state (next_state (next_state state)))

-- so many draws, each the fourth behind the one before it; the first of them at a state
abbrev pub every_fourth : ℕ → ℕ → List ℕ
every_fourth state zero = []
every_fourth state (suc count) = drawn state ∷ every_fourth (fourth_state state) count
