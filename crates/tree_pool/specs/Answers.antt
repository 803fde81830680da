-- What the board's calls answer.
use Rattle.std.specs.Prelude.{ℕ, List}
use Rattle.certificate.specs.declared.split.Side.{Side}
use Rattle.search_tree.specs.Board.{Board}
use Rattle.search_tree.specs.Steps.{IsLease, IsIdle}
use Rattle.tree_pool.specs.declared.answer.LeaseAnswer.{LeaseAnswer}
use Rattle.tree_pool.specs.declared.answer.LeaseAnswer.TheVariants.{Leased, Idle}

-- the answer to who asks for a leaf, where b becomes c
abbrev pub IsAnswer : Board → ℕ → LeaseAnswer → Board → Type 0
IsAnswer b seat (Leased lease hint) c = (way : List Side) × IsLease b seat way lease c
IsAnswer b seat (Idle count) c = IsIdle b seat count c
