-- The names that are there, then the texts that are left.
use Rattle.std.proofs.Common.{◌≡◌, ◌++◌, map, drop}
use Rattle.command_line.proofs.read.names_of.Given as goal

abbrev pub invariant-loop-text : goal.invariant-loop-text
invariant-loop-text l = map (λ text. text.now) l.fn.texts ≡ l.names ++ map (λ text. text.now) (drop l.text-index l.fn.texts)
