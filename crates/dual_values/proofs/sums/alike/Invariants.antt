-- What is left of the places.
use Rattle.std.proofs.Common.{◌≡◌, ◌++◌, drop, map}
use Rattle.dual_values.proofs.sums.alike.Given as goal

abbrev pub invariant-loop : goal.invariant-loop
invariant-loop g l = map (λ _. l.dual) l.places ≡ l.made.items ++ map (λ _. l.dual) (drop l.index l.places)
